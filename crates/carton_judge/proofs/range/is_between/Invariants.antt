use Rattle.std.proofs.Common.{ℕ, ◌<◌}
use Rattle.carton_model.specs.Moves.{stop_of}
use Rattle.carton_reach.specs.Ranges.{LiesBetween}
use Rattle.carton_judge.proofs.range.is_between.Given as goal

abbrev pub invariant-loop-k : goal.invariant-loop-k
invariant-loop-k l = (j : ℕ) → j < l.k → LiesBetween (stop_of l.low j) (stop_of l.high j) (stop_of l.at j)
