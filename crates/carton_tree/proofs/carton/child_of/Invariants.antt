use Rattle.std.proofs.Common.{ℕ, ◌<◌}
use Rattle.carton_tree.specs.Trees.{Hangs}
use Rattle.carton_tree.proofs.carton.child_of.Given as goal

abbrev pub invariant-loop-p : goal.invariant-loop-p
invariant-loop-p l = (q : ℕ) → q < l.p → ¬ (Hangs l.joints l.e.0 q)
