use Rattle.std.proofs.Common.{ℕ, ◌<◌, pos}
use Rattle.carton_place.specs.States.{fold_in}
use Rattle.carton_bodies.specs.Bodies.{IsInBody}
use Rattle.carton_bodies.specs.Boxes.{faces}
use Rattle.carton_stroke.specs.Clear.{IsApartFrom}
use Rattle.carton_stroke.proofs.resting.note_alone.Given as goal

abbrev pub invariant-loop-p : goal.invariant-loop-p
invariant-loop-p l =
    (p : ℕ) → p < l.p
    → IsApartFrom l.carton (fold_in l.state) p (IsInBody (faces l.body.shape) l.body.stroke 0 0 1) (pos 0)
