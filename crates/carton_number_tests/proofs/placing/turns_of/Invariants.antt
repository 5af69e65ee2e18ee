use Rattle.std.proofs.Common.{◌≡◌, length}
use Rattle.std.specs.Prelude.{All}
use Rattle.carton_base.specs.declared.limits.TheConstants.{LONGEST_PATH}
use Rattle.carton_model.specs.Turning.{IsTurn}
use Rattle.carton_number_tests.proofs.placing.turns_of.Given as goal

abbrev pub invariant-loop-i : goal.invariant-loop-i
invariant-loop-i l = (length l.turns ≡ LONGEST_PATH) × All IsTurn l.turns
