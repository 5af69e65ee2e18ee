use Rattle.std.proofs.Common.{◌≡◌, ℕ, ◌<◌, get_or, length}
use Rattle.carton_base.specs.declared.limits.TheConstants.{LONGEST_PATH}
use Rattle.carton_base.specs.declared.motion.Motion.{Motion}
use Rattle.carton_base.specs.declared.motion.Turn.{Turn}
use Rattle.carton_place.specs.declared.swings.Swing.{Swing}
use Rattle.carton_place.specs.Swings.{FollowsMove}
use Rattle.carton_reach.specs.Ranges.{IsMotionBetween}
use Rattle.carton_reach.proofs.ranges.swings_between.Given as goal

abbrev pub invariant-loop-i : goal.invariant-loop-i
invariant-loop-i l = (length l.swings ≡ LONGEST_PATH)
    × ((k : ℕ) (s : Swing) → k < l.i → (t : Turn) (motion : Motion) → IsMotionBetween l.low l.high motion
    → FollowsMove (get_or l.swings k s) motion (get_or l.turns k t).place 0 0)
