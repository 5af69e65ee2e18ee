use Rattle.std.proofs.Common.{ℕ, ◌<◌}
use Rattle.carton_tree.specs.Rules.{IsThreefold}
use Rattle.carton_tree.proofs.rules.first_threefold.Given as goal

abbrev pub invariant-loop-k : goal.invariant-loop-k
invariant-loop-k l = (j : ℕ) → j < l.k → ¬ (IsThreefold l.raw j)
