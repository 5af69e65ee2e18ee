use Rattle.std.proofs.Common.{ℕ, ◌<◌}
use Rattle.carton_tree.specs.Rules.{IsSlantedJoint}
use Rattle.carton_tree.proofs.rules.first_slanted.Given as goal

abbrev pub invariant-loop-k : goal.invariant-loop-k
invariant-loop-k l = (j : ℕ) → j < l.k → ¬ (IsSlantedJoint l.raw j)
