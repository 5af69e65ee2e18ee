use Rattle.std.proofs.Common.{ℕ, ◌<◌}
use Rattle.carton_text.specs.TaskPlans.{IsFineMove}
use Rattle.carton_check.proofs.strides.first_wide.Given as goal

abbrev pub invariant-loop-i : goal.invariant-loop-i
invariant-loop-i l = (j : ℕ) → j < l.i → IsFineMove l.joints l.stride l.states j
