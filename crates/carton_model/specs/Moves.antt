-- States of the free joints of a carton, and moves from one state to another.
use Rattle.std.specs.Prelude.{◌≡◌, ℕ, ◌*◌, ◌<◌, ◌≤◌, ℤ, pos, ◌-ℤ◌, unsigned_abs, slice_index_or}
use Rattle.carton_base.specs.declared.limits.TheConstants.{MOST_JOINTS, WIDEST_STEP}
use Rattle.carton_base.specs.declared.motion.State.{State}
use Rattle.carton_base.specs.declared.motion.Motion.{Motion}
use Rattle.carton_model.specs.HalfTurns.{Fold, joint_fold}

-- the stop lies from two right angles one way to two the other way
abbrev pub IsStop : ℕ → ℤ → Type 0
IsStop grid s = unsigned_abs s ≤ 2 * grid

-- one move may take a joint from the one stop to the other
abbrev pub IsStep : ℤ → ℤ → Type 0
IsStep s t = unsigned_abs (t -ℤ s) ≤ WIDEST_STEP

-- the stop of the free joint at place k
abbrev pub stop_of : State → ℕ → ℤ
stop_of s k = slice_index_or s.stops k (pos 0)

-- a state of so many free joints: a stop for each, and 0 in the places past them
pub record IsState (joints : ℕ) (s : State) : Type 0 where
  pub stops : (k : ℕ) → k < joints → IsStop s.grid (stop_of s k)
  pub others : (k : ℕ) → joints ≤ k → k < MOST_JOINTS → stop_of s k ≡ pos 0

-- a move of so many free joints
pub record IsMotion (joints : ℕ) (m : Motion) : Type 0 where
  pub from : IsState joints m.from
  pub to : IsState joints m.to
  pub steps : (k : ℕ) → k < joints → IsStep (stop_of m.from k) (stop_of m.to k)

-- the fold of the free joint at place k, at the moment n / d of a move
abbrev pub fold_at : Motion → ℕ → ℕ → ℕ → Fold
fold_at m n d k = joint_fold (stop_of m.from k) (stop_of m.to k) m.from.grid n d
