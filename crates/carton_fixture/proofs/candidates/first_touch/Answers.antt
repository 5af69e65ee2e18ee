use Rattle.carton_base.proofs.Loops.{all_more_read}
use Rattle.carton_bodies.specs.Boxes.{faces}
use Rattle.carton_stroke.specs.Clear.{IsClearOf}
use Rattle.carton_fixture.proofs.Loops.{no_body}
use Rattle.carton_fixture.proofs.candidates.first_touch.Goals as goal

pub loop-k-preserved : goal.loop-k-preserved
loop-k-preserved c =
    all_more_read (λ b. IsClearOf c.args.carton.now c.args.plan.now c.args.stroke (faces b.shape))
    c.args.bodies.now c.loop-k.k no_body c.loop-k-test.true c.in-Clears.ensures.note c.loop-k.invariant
