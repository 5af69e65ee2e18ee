use Rattle.std.proofs.Common.{ℕ, ◌<◌}
use Rattle.carton_tree.specs.Rules.{IsApart}
use Rattle.carton_tree.proofs.build.first_apart.Given as goal

abbrev pub invariant-loop-p : goal.invariant-loop-p
invariant-loop-p l = (q : ℕ) → q < l.p → ¬ (IsApart l.raw l.root.0 q)
