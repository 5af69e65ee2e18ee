use Rattle.std.proofs.Common.{arith, ◌∙◌, ◌<◌, ◌+◌, List, length, get_or}
use Rattle.carton_base.specs.declared.bodies.Cuboid.{Cuboid}
use Rattle.carton_base.specs.declared.motion.State.{State}
use Rattle.carton_text.specs.PlanMoves.{IsMove}
use Rattle.carton_stroke.specs.Steps.{IsNoteBefore}
use Rattle.carton_stroke.proofs.Noted.{after_move}
use Rattle.carton_stroke.proofs.Passed.{one_more_changed}
use Rattle.carton_stroke.proofs.clearing.note_move.Goals as goal

pub loop-k-preserved : goal.loop-k-preserved
loop-k-preserved c =
    let t = c.args.carton.now in
    let bodies = c.args.bodies.now in
    let k = c.loop-k.k in
    let new = c.loop-k.notes in
    let h = c.loop-k.invariant in
    let lt : k < length new = omega (arith, h.count, c.requires.notes, c.loop-k-test.true) in
    one_more_changed (λ j before after. (b : Cuboid) (states : List State)
    → IsMove states c.args.step c.args.motion.now.from c.args.motion.now.to
    → IsNoteBefore t states c.args.stroke c.args.slack c.args.step (get_or bodies j b) before
    → IsNoteBefore t states c.args.stroke c.args.slack (c.args.step + 1) (get_or bodies j b) after)
    c.args.notes.now new k c.note_after.result lt
    (λ d b states is before. after_move t states c.args.stroke c.args.slack c.args.step bodies
    c.args.notes.now new k c.note_after.result _ c.index-notes-k.result b d c.loop-k-test.true lt
    (h.rest k d (omega arith)) c.index-notes-k.is (c.note_after.ensures states is) before)
    h

pub returns : goal.returns
returns c = λ states is before.
    let h = c.loop-k.invariant in
    record {
      count = h.count ∙ before.count;
      each = λ k b m lt. h.changed k m m (omega (arith, lt, c.loop-k-test.false)) b states is
          (before.each k b m lt);
    }
