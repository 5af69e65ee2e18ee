-- When two panels of a carton are parted, and when all are that share no crease. Lengths are counted in
-- halves of a unit, so that half a slack is a whole number.
use Rattle.std.specs.Prelude.{ℕ, ◌<◌, length, ℤ}
use Rattle.carton_base.specs.Directions.{IsDirection}
use Rattle.carton_base.specs.Moments.{IsMoment}
use Rattle.carton_model.specs.HalfTurns.{Fold}
use Rattle.carton_model.specs.Parting.{Position}
use Rattle.carton_tree.specs.Trees.{Tree, SharesCrease}
use Rattle.carton_reach.specs.Beyond.{IsBeyond}
use Rattle.carton_part.specs.Frames.{IsFrame}
use Rattle.carton_part.specs.Points.{IsPointOf}

-- in the frame of panel f some direction parts all points of the shrunk panels a and b by more than so many
-- halves
abbrev pub ArePartedIn : Tree → (ℕ → Fold) → ℕ → ℕ → ℤ → ℕ → Type 0
ArePartedIn t folds a b halves f = (u v s : ℤ) × IsDirection u v s
    × ((p q : Position) → IsPointOf t folds a f p → IsPointOf t folds b f q → IsBeyond halves u v s p q)

-- panels a and b are parted by more than so many halves: in a frame between them
abbrev pub ArePartedBy : Tree → (ℕ → Fold) → ℕ → ℕ → ℤ → Type 0
ArePartedBy t folds a b halves = (f : ℕ) × IsFrame t a b f × ArePartedIn t folds a b halves f

-- a and b are two panels that share no crease
pub record AreStrangers (t : Tree) (a b : ℕ) : Type 0 where
  pub ordered : a < b
  pub panels : b < length t.panels
  pub apart : ¬ (SharesCrease t a b)

-- every two panels that share no crease are parted by more than so many halves
abbrev pub AreAllParted : Tree → (ℕ → Fold) → ℤ → Type 0
AreAllParted t folds halves = (a b : ℕ) → AreStrangers t a b → ArePartedBy t folds a b halves

-- P at every moment n / d of a move
abbrev pub AtEachMoment : (ℕ → ℕ → Type 0) → Type 0
AtEachMoment P = (n d : ℕ) → IsMoment n d → P n d
