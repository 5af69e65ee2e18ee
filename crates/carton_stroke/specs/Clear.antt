-- When a body that moves with the stroke keeps clear of the panels of a carton throughout a plan.
use Rattle.std.specs.Prelude.{◌≡◌, ℕ, ◌<◌, List, length, ℤ, pos, ◌*ℤ◌}
use Rattle.carton_base.specs.Directions.{IsDirection}
use Rattle.carton_base.specs.Moments.{IsMoment}
use Rattle.carton_base.specs.declared.motion.State.{State}
use Rattle.carton_model.specs.HalfTurns.{Fold}
use Rattle.carton_model.specs.Parting.{Position}
use Rattle.carton_place.specs.States.{fold_in}
use Rattle.carton_tree.specs.Trees.{Tree}
use Rattle.carton_text.specs.declared.plan.Plan.{Plan}
use Rattle.carton_text.specs.PlanMoves.{IsFirst, IsMove, folds_between}
use Rattle.carton_reach.specs.Beyond.{IsBeyond}
use Rattle.carton_part.specs.Points.{IsPointOf}
use Rattle.carton_bodies.specs.Bodies.{Side, IsInBody}

-- P of the folds, the move and the moment n / d, at every moment of every move; a plan of one state has the
-- one moment 0 / 1 of step 0
pub record AtAllTimes (states : List State) (P : (ℕ → Fold) → ℕ → ℕ → ℕ → Type 0) : Type 0 where
  pub moves : (i : ℕ) (s r : State) → IsMove states i s r → (n d : ℕ) → IsMoment n d
      → P (folds_between s r n d) i n d
  pub alone : (s : State) → length states ≡ 1 → IsFirst states s → P (fold_in s) 0 0 1

-- no point of a shrunk panel stands, in the world, at a place that the body holds
abbrev pub IsClearAt : Tree → (ℕ → Fold) → (Position → Type 0) → Type 0
IsClearAt t folds body = (panel : ℕ) (q : Position) → panel < length t.panels
    → IsPointOf t folds panel t.root q → ¬ (body q)

-- the body of these sides clears the plan
abbrev pub IsClearOf : Tree → Plan → List ℤ → List Side → Type 0
IsClearOf t plan stroke sides =
    AtAllTimes plan.states (λ folds i n d. IsClearAt t folds (IsInBody sides stroke i n d))

-- some direction parts the panel from the body: in the world each place of the body lies farther along it
-- than each point of the
-- shrunk panel, by more than so many halves of a unit
abbrev pub IsApartFrom : Tree → (ℕ → Fold) → ℕ → (Position → Type 0) → ℤ → Type 0
IsApartFrom t folds panel body halves = (u v s : ℤ) × IsDirection u v s
    × ((p q : Position) → IsPointOf t folds panel t.root p → body q → IsBeyond halves u v s p q)

-- each panel is parted from the body so
abbrev pub AreApartFrom : Tree → (ℕ → Fold) → (Position → Type 0) → ℤ → Type 0
AreApartFrom t folds body halves = (panel : ℕ) → panel < length t.panels
    → IsApartFrom t folds panel body halves

-- at each moment each panel is parted from the body by more than the slack
abbrev pub IsSlackClearOf : Tree → Plan → List ℤ → List Side → ℕ → Type 0
IsSlackClearOf t plan stroke sides slack =
    AtAllTimes plan.states (λ folds i n d. AreApartFrom t folds (IsInBody sides stroke i n d)
    (pos 2 *ℤ pos slack))
