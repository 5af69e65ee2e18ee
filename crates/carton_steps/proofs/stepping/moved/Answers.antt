use Rattle.std.proofs.Common.{◌<◌, SFits, ap, sym, ◌∙◌, arith, rules, refl, pos}
use Rattle.std.specs.Int.{w8}
use Rattle.std.proofs.lemmas.Int.{to_z-of_z}
use Rattle.std.proofs.lemmas.List.{length-set, drop_all}
use Rattle.std.proofs.lemmas.List.FromFn.{fill_by_all}
use Rattle.carton_base.specs.declared.limits.TheConstants.{MOST_JOINTS}
use Rattle.carton_text.proofs.OneTask.{same_state}
use Rattle.carton_steps.specs.Steps.{stop_after}
use Rattle.carton_steps.proofs.Stops.{written, one_more}
use Rattle.carton_steps.proofs.stepping.moved.Goals as goal

pub loop-place-preserved : goal.loop-place-preserved
loop-place-preserved c =
    let within = c.requires.members c.loop-place.place-index 0 c.loop-place-test.true in
    let lt : c.from.result < MOST_JOINTS = omega (arith, c.from.ensures, within) in
    let gone : SFits w8 c.stop_toward.result = search rules in
    simp to_z-of_z (record {
      whole = length-set c.loop-place.stops c.from.result c.stop_toward.result ∙ c.loop-place.invariant.whole;
      kept = λ k l. one_more c.args.stride c.args.goal.now c.args.at.now c.args.members.now c.loop-place.stops
          c.loop-place.place-index c.from.result k c.stop_toward.result c.loop-place-test.true c.from.ensures
          (omega (arith, lt, c.loop-place.invariant.whole)) c.stop_toward.ensures
          ∙ c.loop-place.invariant.kept k l;
    })

pub returns : goal.returns
returns c =
    let members = c.args.members.now in
    let none = drop_all c.loop-place.place-index members (omega (arith, c.loop-place-test.false)) in
    let stops = fill_by_all (stop_after c.args.stride members c.args.goal.now c.args.at.now)
    c.loop-place.stops MOST_JOINTS (pos 0) c.loop-place.invariant.whole (λ k lt.
    ap (λ ms. written c.args.stride c.args.goal.now c.args.at.now ms c.loop-place.stops k) (sym none)
    ∙ c.loop-place.invariant.kept k lt) in
    same_state _ _ stops refl
