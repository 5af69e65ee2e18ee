-- The states of a plan, the moves from each of them to the next, and what holds throughout.
use Rattle.std.specs.Prelude.{◌≡◌, ℕ, ◌+◌, ◌<◌, ◌≤◌, List, length, slice_get, Some, ◌-ℤ◌, unsigned_abs}
use Rattle.carton_base.specs.Moments.{IsMoment}
use Rattle.carton_base.specs.declared.limits.TheConstants.{MOST_JOINTS, MOST_STATES, WIDEST_STEP}
use Rattle.carton_base.specs.declared.motion.State.{State}
use Rattle.carton_model.specs.HalfTurns.{Fold, joint_fold}
use Rattle.carton_model.specs.Moves.{IsState, stop_of}
use Rattle.carton_place.specs.States.{fold_in}

-- the first state
abbrev pub IsFirst : List State → State → Type 0
IsFirst states s = slice_get states 0 ≡ Some s

-- the last state
abbrev pub IsLast : List State → State → Type 0
IsLast states s = (i : ℕ) × (i + 1 ≡ length states) × (slice_get states i ≡ Some s)

-- move i of these states goes from the one state to the other
pub record IsMove (states : List State) (i : ℕ) (s r : State) : Type 0 where
  pub from : slice_get states i ≡ Some s
  pub to : slice_get states (i + 1) ≡ Some r

-- each stop of so many joints changes by at most the stride
abbrev pub IsStrideFrom : ℕ → ℕ → State → State → Type 0
IsStrideFrom joints stride s r = (k : ℕ) → k < joints → unsigned_abs (stop_of r k -ℤ stop_of s k) ≤ stride

-- the folds at the moment n / d of the move from the one state to the other
abbrev pub folds_between : State → State → ℕ → ℕ → ℕ → Fold
folds_between s r n d k = joint_fold (stop_of s k) (stop_of r k) s.grid n d

-- P of the folds at every moment of every move
abbrev pub Throughout : List State → ((ℕ → Fold) → Type 0) → Type 0
Throughout states P = (i : ℕ) (s r : State) → IsMove states i s r → (n d : ℕ) → IsMoment n d
    → P (folds_between s r n d)

-- P of the folds of the first state, and of those at every moment of every move
pub record FromTheFirst (states : List State) (P : (ℕ → Fold) → Type 0) : Type 0 where
  pub first : (s : State) → IsFirst states s → P (fold_in s)
  pub moves : Throughout states P

-- each two neighbouring states are a move of so many joints
abbrev pub HaveMoves : ℕ → List State → Type 0
HaveMoves joints states = (i : ℕ) (s r : State) → IsMove states i s r → IsStrideFrom joints WIDEST_STEP s r

-- states of one grid, each two neighbours of which are a move
pub record AreMoves (states : List State) : Type 0 where
  pub few : length states ≤ MOST_STATES
  pub each : (i : ℕ) (s : State) → slice_get states i ≡ Some s → IsState MOST_JOINTS s
  pub one_grid : (i : ℕ) (s r : State) → IsMove states i s r → r.grid ≡ s.grid
  pub steps : HaveMoves MOST_JOINTS states
