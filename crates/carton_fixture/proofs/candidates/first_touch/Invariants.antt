use Rattle.carton_base.proofs.Loops.{AllBelow}
use Rattle.carton_bodies.specs.Boxes.{faces}
use Rattle.carton_stroke.specs.Clear.{IsClearOf}
use Rattle.carton_fixture.proofs.candidates.first_touch.Given as goal

abbrev pub invariant-loop-k : goal.invariant-loop-k
invariant-loop-k l = AllBelow (λ b. IsClearOf l.carton l.plan l.stroke (faces b.shape)) l.bodies l.k
