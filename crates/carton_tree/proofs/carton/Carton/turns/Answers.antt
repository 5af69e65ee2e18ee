use Rattle.std.proofs.Common.{◌≡◌, ◌<◌, List, length, get_or, take, sym, ◌∙◌, ap, subst, arith}
use Rattle.std.proofs.lemmas.List.{length-take, length-take-le, get_or-take}
use Rattle.carton_base.specs.declared.limits.TheConstants.{LONGEST_PATH}
use Rattle.carton_base.specs.declared.motion.Turn.{Turn}
use Rattle.carton_model.specs.Turning.{IsTurn}
use Rattle.carton_tree.specs.Trees.{Tree, path, turns_by, turns_up, steps_to}
use Rattle.carton_tree.proofs.Meeting.{few_turns, valid_turns, steps_fit}
use Rattle.carton_tree.proofs.carton.Carton.turns.Goals as goal

pub slice_bounds-result-end : goal.slice_bounds-result-end
slice_bounds-result-end c =
    let t : Tree = c.args.self.now in
    let steps : c.steps_to-steps.result ≡ steps_to c.args.frame.0 (path t.joints c.args.p.0) =
    c.steps_to-steps.ensures ∙ ap (steps_to c.args.frame.0) c.path.ensures in
    sym (length-take-le c.steps_to-steps.result c.turns_to_root.result.now
    (omega (
      arith,
      steps,
      ap length c.turns_to_root.ensures.turns,
      steps_fit t.joints c.args.p.0
          c.args.frame c.requires.frame,
    )))

pub returns-clause-turns : goal.returns-clause-turns
unfolding turns_up
returns-clause-turns c =
    let ps = path c.args.self.now.joints c.args.p.0 in
    ap (λ n. take n c.turns_to_root.result.now) (c.steps_to-steps.ensures
    ∙ ap (steps_to c.args.frame.0) c.path.ensures)
    ∙ ap (λ (x : List Turn). take (steps_to c.args.frame.0 ps) x) c.turns_to_root.ensures.turns

pub returns-clause-each : goal.returns-clause-each
returns-clause-each c =
    let t : Tree = c.args.self.now in
    let n = c.steps_to-steps.result in
    let xs : List Turn = c.turns_to_root.result.now in
    λ k d less.
    let in' : k < n = omega (arith, less, length-take n xs) in
    let whole : k < length (turns_by LONGEST_PATH t.joints c.args.p.0) =
    omega (arith, less, length-take n xs, ap length c.turns_to_root.ensures.turns) in
    subst IsTurn
    (sym (get_or-take n xs k d in' ∙ ap (λ (x : List Turn). get_or x k d) c.turns_to_root.ensures.turns))
    (valid_turns t LONGEST_PATH c.args.p.0 c.turns_to_root.ensures.carton c.requires.p k d whole)

pub returns-clause-few : goal.returns-clause-few
returns-clause-few c =
    omega (
      arith,
      length-take c.steps_to-steps.result c.turns_to_root.result.now,
      ap length
          c.turns_to_root.ensures.turns,
      few_turns LONGEST_PATH c.args.self.now.joints c.args.p.0,
    )
