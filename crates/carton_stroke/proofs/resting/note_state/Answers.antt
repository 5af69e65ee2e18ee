use Rattle.std.proofs.Common.{arith, ◌∙◌, ◌<◌, length, get_or, subst}
use Rattle.std.proofs.lemmas.List.{get_or_default, length-set}
use Rattle.carton_base.specs.declared.bodies.Cuboid.{Cuboid}
use Rattle.carton_place.proofs.Lists.{one_more_set}
use Rattle.carton_stroke.specs.Steps.{IsNoteAlone}
use Rattle.carton_stroke.proofs.resting.note_state.Goals as goal

pub loop-k-preserved : goal.loop-k-preserved
loop-k-preserved c =
    let t = c.args.carton.now in
    let s = c.args.state.now in
    let xs = c.loop-k.notes in
    let k = c.loop-k.k in
    let r = c.note_alone.result in
    let lt : k < length xs = omega (arith, c.loop-k.invariant.0, c.loop-k-test.true) in
    let here : (b : Cuboid) → IsNoteAlone t s c.args.stroke c.args.slack (get_or c.args.bodies.now k b) r =
    λ b. subst (λ box. IsNoteAlone t s c.args.stroke c.args.slack box r)
    (get_or_default c.args.bodies.now k _ b c.loop-k-test.true) c.note_alone.ensures in (
      length-set xs k r
          ∙ c.loop-k.invariant.0,
      one_more_set (λ j m. (b : Cuboid)
          → IsNoteAlone t s c.args.stroke c.args.slack (get_or c.args.bodies.now j b) m) xs k r lt here
          c.loop-k.invariant.1,
    )

pub returns : goal.returns
returns c =
    record {
      count = c.loop-k.invariant.0;
      each = λ k b m lt. c.loop-k.invariant.1 k m (omega (arith, lt, c.loop-k-test.false)) b;
    }
