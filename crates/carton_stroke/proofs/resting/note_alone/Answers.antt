use Rattle.std.proofs.Common.{arith, ℕ, pos, refl, below_more}
use Rattle.carton_place.specs.States.{fold_in}
use Rattle.carton_bodies.specs.Bodies.{IsInBody}
use Rattle.carton_bodies.specs.Boxes.{faces}
use Rattle.carton_stroke.specs.Clear.{IsApartFrom}
use Rattle.carton_stroke.proofs.Noted.{parted_in_state, touching_in_state}
use Rattle.carton_stroke.proofs.resting.note_alone.Goals as goal

pub returns-in-Bad : goal.returns-in-Bad
returns-in-Bad c = touching_in_state c.args.carton.now c.args.state.now c.loop-p.p c.args.slack
    c.args.body.now _ c.requires.step (omega (arith, c.loop-p-test.true, c.panels-p-end.ensures.count))
    (record { num = refl; den = refl }) (c.in-Bad.ensures.bad refl)

pub loop-p-preserved : goal.loop-p-preserved
loop-p-preserved c =
    let b = c.args.body.now in
    below_more (λ (p : ℕ). IsApartFrom c.args.carton.now (fold_in c.args.state.now) p
    (IsInBody (faces b.shape) b.stroke 0 0 1) (pos 0)) c.loop-p.p c.loop-p.invariant
    (parted_in_state c.args.carton.now c.args.state.now c.loop-p.p b c.requires.step
    (c.in-Good.ensures.good refl))
