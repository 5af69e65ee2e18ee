use Rattle.std.proofs.Common.{ℕ, ◌<◌}
use Rattle.carton_panels.specs.Creases.{IsCommonCrease}
use Rattle.carton_panels.proofs.creases.common_crease.Given as goal

abbrev pub invariant-loop-k : goal.invariant-loop-k
invariant-loop-k l = (j : ℕ) → j < l.k → ¬ (IsCommonCrease l.raw l.first l.second j)
