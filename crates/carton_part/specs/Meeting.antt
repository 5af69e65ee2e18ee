-- When two panels meet in space, and that parted panels never do.
use Rattle.std.specs.Prelude.{◌≡◌, ℕ, ◌<◌, length, pos, ◌*ℤ◌}
use Rattle.carton_model.specs.HalfTurns.{Fold}
use Rattle.carton_model.specs.Parting.{Position}
use Rattle.carton_tree.specs.Trees.{Tree}
use Rattle.carton_tree.specs.Cartons.{IsCarton}
use Rattle.carton_part.specs.Points.{IsPointOf, HaveDens}
use Rattle.carton_part.specs.Parted.{ArePartedBy}

-- two positions are one place
pub record IsSamePlace (p q : Position) : Type 0 where
  pub x : p.x *ℤ q.w ≡ q.x *ℤ p.w
  pub y : p.y *ℤ q.w ≡ q.y *ℤ p.w
  pub z : p.z *ℤ q.w ≡ q.z *ℤ p.w

-- a point of the shrunk panel a and one of b stand at one place of the world
pub record AreMeeting (t : Tree) (folds : ℕ → Fold) (a b : ℕ) : Type 0 where
  pub p : Position
  pub q : Position
  pub of_a : IsPointOf t folds a t.root p
  pub of_b : IsPointOf t folds b t.root q
  pub same : IsSamePlace p q

-- panels of a carton that are parted don't meet, however its joints are folded
abbrev pub PartedDoNotMeet : Type 0
PartedDoNotMeet = (t : Tree) (folds : ℕ → Fold) (a b : ℕ) → IsCarton t → HaveDens folds → a < length t.panels
    → b < length t.panels → ArePartedBy t folds a b (pos 0) → ¬ (AreMeeting t folds a b)
