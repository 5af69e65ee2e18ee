use Rattle.carton_fixture.specs.Steps.{AreTried}
use Rattle.carton_fixture.proofs.leaving.leave_out.Given as goal

abbrev pub invariant-loop-k : goal.invariant-loop-k
invariant-loop-k l = AreTried l.carton l.plan l.catalogue l.slack l.initial.chosen l.chosen l.k
