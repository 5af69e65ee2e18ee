use Rattle.std.proofs.Common.{ℕ, ◌<◌}
use Rattle.carton_part_tests.specs.Steps.{MayTake}
use Rattle.carton_part_tests.proofs.moves.is_move.Given as goal

abbrev pub invariant-loop-k : goal.invariant-loop-k
invariant-loop-k l = (j : ℕ) → j < l.k → MayTake l.motion j
