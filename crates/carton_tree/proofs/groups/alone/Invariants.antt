use Rattle.std.proofs.Common.{◌≡◌, ℕ, ◌<◌, length, get_or}
use Rattle.carton_base.specs.declared.limits.TheConstants.{MOST_PANELS}
use Rattle.carton_tree.proofs.groups.alone.Given as goal

abbrev pub invariant-loop-p : goal.invariant-loop-p
invariant-loop-p l =
    record { len : length l.groups ≡ MOST_PANELS; each : (q : ℕ) → q < l.p → get_or l.groups q 0 ≡ q }
