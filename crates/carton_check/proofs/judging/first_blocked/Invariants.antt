use Rattle.std.proofs.Common.{ℕ, ◌<◌}
use Rattle.carton_check.proofs.Judged.{KeepsMove}
use Rattle.carton_check.proofs.judging.first_blocked.Given as goal

abbrev pub invariant-loop-i : goal.invariant-loop-i
invariant-loop-i l = (j : ℕ) → j < l.i → KeepsMove l.carton l.states j
