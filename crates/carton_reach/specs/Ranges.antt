-- Ranges of the folds of a carton's joints, from one state to another.
use Rattle.std.specs.Prelude.{◌≡◌, ℕ, ◌<◌, Option, None, Some, ℤ, pos, ◌≤ℤ◌}
use Rattle.std.specs.Int.{int_min, int_max}
use Rattle.carton_base.specs.Moments.{IsMoment}
use Rattle.carton_base.specs.declared.limits.TheConstants.{MOST_JOINTS}
use Rattle.carton_base.specs.declared.motion.State.{State}
use Rattle.carton_base.specs.declared.motion.Motion.{Motion}
use Rattle.carton_model.specs.Moves.{IsState, stop_of}
use Rattle.carton_model.specs.Turning.{angle_of}
use Rattle.carton_halfturn.specs.declared.spans.FoldSpan.{FoldSpan}
use Rattle.carton_place.specs.declared.swings.Swing.{Swing}
use Rattle.carton_place.specs.Held.{HoldsSwing}
use Rattle.carton_place.specs.Swings.{span_fold}

-- s is one of a and b or lies between them, whichever is the lower
pub record LiesBetween (a b s : ℤ) : Type 0 where
  pub from : int_min a b ≤ℤ s
  pub upto : s ≤ℤ int_max a b

-- two states of a carton's joints on one grid
pub record IsRange (low high : State) : Type 0 where
  pub first : IsState MOST_JOINTS low
  pub second : IsState MOST_JOINTS high
  pub grid : high.grid ≡ low.grid

-- joint by joint, the stops of the state lie between those of the two others
abbrev pub IsStateBetween : State → State → State → Type 0
IsStateBetween low high s = (k : ℕ) → k < MOST_JOINTS
    → LiesBetween (stop_of low k) (stop_of high k) (stop_of s k)

-- the move goes, on the same grid, from a state between the two to another one between them
pub record IsMotionBetween (low high : State) (motion : Motion) : Type 0 where
  pub grid : motion.from.grid ≡ low.grid
  pub from : IsStateBetween low high motion.from
  pub to : IsStateBetween low high motion.to

-- at every moment the swing has the angle of each fold of the span
abbrev pub HoldsEach : Swing → FoldSpan → Type 0
HoldsEach s f = (m e n d : ℕ) → IsMoment m e → IsMoment n d → HoldsSwing s n d (angle_of (span_fold f m e))

-- the span of the joint's folds from its stop in the one state to that in the other; a locked joint stays
-- flat
pub record IsSpan (f : FoldSpan) (a b : ℤ) (grid : ℕ) : Type 0 where
  pub from : f.from ≡ a
  pub to : f.to ≡ b
  pub den : f.den ≡ pos grid

abbrev pub IsSpanBetween : State → State → Option ℕ → FoldSpan → Type 0
IsSpanBetween low high None f = IsSpan f (pos 0) (pos 0) 1
IsSpanBetween low high (Some k) f = IsSpan f (stop_of low k) (stop_of high k) low.grid
