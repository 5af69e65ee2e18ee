use Rattle.std.proofs.Common.{ℕ, ◌<◌}
use Rattle.carton_tree.specs.Rules.{IsDeep}
use Rattle.carton_tree.proofs.build.first_deep.Given as goal

abbrev pub invariant-loop-p : goal.invariant-loop-p
invariant-loop-p l = (q : ℕ) → q < l.p → ¬ (IsDeep l.raw l.fn.root.0 q)
