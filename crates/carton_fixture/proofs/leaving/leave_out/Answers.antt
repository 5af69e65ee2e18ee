use Rattle.carton_fixture.proofs.Tried.{one_more}
use Rattle.carton_fixture.proofs.leaving.leave_out.Goals as goal

pub loop-k-preserved : goal.loop-k-preserved
loop-k-preserved c = one_more c.args.carton.now c.args.plan.now c.args.catalogue.now c.args.slack
    c.args.chosen.now c.loop-k.chosen _ c.loop-k.k c.loop-k.invariant c.try_without.ensures
