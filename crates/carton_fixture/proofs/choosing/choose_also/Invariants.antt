use Rattle.std.proofs.Common.{take}
use Rattle.carton_fixture.specs.Steps.{AreNamed}
use Rattle.carton_fixture.proofs.choosing.choose_also.Given as goal

abbrev pub invariant-loop-body : goal.invariant-loop-body
invariant-loop-body l = AreNamed l.chosen (take l.body-index l.bodies)
