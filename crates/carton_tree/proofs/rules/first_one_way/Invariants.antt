use Rattle.std.proofs.Common.{ℕ, ◌<◌}
use Rattle.carton_tree.specs.Rules.{IsOneWay}
use Rattle.carton_tree.proofs.rules.first_one_way.Given as goal

abbrev pub invariant-loop-k : goal.invariant-loop-k
invariant-loop-k l = (j : ℕ) → j < l.k → ¬ (IsOneWay l.raw j)
