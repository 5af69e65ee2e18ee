use Rattle.std.proofs.Common.{◌≡◌, ◌∙◌, ◌+◌, ap, sym, subst, pos, arith}
use Rattle.std.specs.Prelude.{All, Contains}
use Rattle.carton_text.specs.PlanMoves.{IsMove}
use Rattle.carton_model.specs.Dielines.{IsNear}
use Rattle.carton_reach.specs.Spots.{shape_at}
use Rattle.carton_tree.specs.Trees.{path, turns_up, turns_between}
use Rattle.carton_tree.proofs.Meeting.{root_on}
use Rattle.carton_guide.specs.Bands.{banded_folds}
use Rattle.carton_guide.specs.Guides.{IsOnPanel}
use Rattle.carton_guide.specs.Holding.{AreLoose}
use Rattle.carton_guide.specs.Looks.{IsSomeIn, AreNoneDeep}
use Rattle.carton_guide.proofs.Fitting.{element, on_flap, in_band}
use Rattle.carton_guide.proofs.Flaps.{flap_in}
use Rattle.carton_guide.proofs.Near.{near_in}
use Rattle.carton_guide.proofs.Probes.{held_by_probe, loose_by_probes, at_halved, if_some}
use Rattle.carton_guide.proofs.World.{to_world}
use Rattle.carton_guide.proofs.holding.loose_during.Goals as goal

pub turns-requires-clause-frame : goal.turns-requires-clause-frame
turns-requires-clause-frame c =
    let t = c.args.carton.now in
    let f = c.args.flap.panel.0 in
    subst (λ n. Contains (path t.joints f) (record { 0 = n })) (sym c.root.ensures)
    (root_on t f c.requires.carton
    (flap_in t c.args.guide.now.edge.0 f c.args.flap.place c.requires.carton c.requires.flap))

pub invariant_of-course : goal.invariant_of-course
invariant_of-course c =
    let t = c.args.carton.now in
    let f = c.args.flap.panel.0 in
    let on = on_flap t c.args.states.now c.args.guide.now f c.args.flap.place c.requires.guide
    c.requires.flap in
    record {
      few_turns = c.turns.ensures.few;
      are_turns = c.turns.ensures.each;
      near = subst (All IsNear) (sym c.as_slice.ensures)
          (λ k d l. near_in (shape_at t f) _ c.keeps_shape.ensures (on k d l));
      moves = c.window_move.ensures.motion;
      in_plan = let w = c.requires.window.upto in let m = c.requires.guide.2.window.moves in
          let few = c.requires.states.few in omega (arith, w, m, few, c.from.ensures);
    }

pub returns-clause-held : goal.returns-clause-held
returns-clause-held c = λ e s r m n d mo.
    let t = c.args.carton.now in
    let f = c.args.flap.panel.0 in
    let h = c.args.holders.now in
    let guide = c.args.guide.now in
    let lt = flap_in t guide.edge.0 f c.args.flap.place c.requires.carton c.requires.flap in
    let on = on_flap t c.args.states.now guide f c.args.flap.place c.requires.guide c.requires.flap in
    let turns : c.turns.result.now ≡ turns_between t f t.root = c.turns.ensures.turns
    ∙ ap (turns_up t.joints f) c.root.ensures ∙ sym (to_world t f c.requires.carton lt) in
    let told = subst (λ i. IsSomeIn c.window_move.result c.turns.result.now c.as_slice.result.now h.stroke
    h.bodies.now h.chosen.now i n d) c.from.ensures (c.loose_moment.ensures.held e n d mo) in
    held_by_probe t (banded_folds c.args.end guide.band c.args.flap.place s r n d) f h.stroke h.bodies.now
    h.chosen.now c.args.step n d c.window_move.result c.turns.result.now c.as_slice.result.now
    (c.window_move.ensures.folds s r m n d) turns (subst (All (IsOnPanel t f)) (sym c.as_slice.ensures) on)
    told

pub returns-clause-loose : goal.returns-clause-loose
returns-clause-loose c =
    let t = c.args.carton.now in
    let f = c.args.flap.panel.0 in
    let h = c.args.holders.now in
    let guide = c.args.guide.now in
    let states = c.args.states.now in
    let i = c.args.step in
    let lt = flap_in t guide.edge.0 f c.args.flap.place c.requires.carton c.requires.flap in
    let turns : c.turns.result.now ≡ turns_between t f t.root = c.turns.ensures.turns
    ∙ ap (turns_up t.joints f) c.root.ensures ∙ sym (to_world t f c.requires.carton lt) in
    let w = c.requires.window.upto in
    let m = c.requires.guide.2.window.moves in
    let from = element states i (omega (arith, w, m)) in
    let to = element states (i + 1) (omega (arith, w, m)) in
    let is : IsMove states i from.0 to.0 = record { from = from.1; to = to.1 } in
    if_some c.loose_moment.result _ _ (λ moment told. (
      from.0,
      to.0,
      is,
      at_halved moment _ _ (λ n d none.
          let there = subst (λ i. AreNoneDeep c.window_move.result c.turns.result.now c.as_slice.result.now
          (pos h.slack) h.stroke h.bodies.now h.chosen.now i n d) c.from.ensures none in
          subst (λ ps. AreLoose t (banded_folds c.args.end guide.band c.args.flap.place from.0 to.0 n d) f ps
          (pos h.slack) h.stroke h.bodies.now h.chosen.now i n d) c.as_slice.ensures
          (loose_by_probes t (banded_folds c.args.end guide.band c.args.flap.place from.0 to.0 n d) f
          (pos h.slack) h.stroke h.bodies.now h.chosen.now i n d c.window_move.result c.turns.result.now
          c.as_slice.result.now (c.window_move.ensures.folds from.0 to.0 is n d) turns there)) told,
    )) c.loose_moment.ensures.loose

pub window_move-requires-clause-band : goal.window_move-requires-clause-band
window_move-requires-clause-band c =
    in_band c.args.carton.now c.args.states.now c.args.guide.now c.args.flap.panel.0 c.args.flap.place
    c.requires.guide c.requires.flap
