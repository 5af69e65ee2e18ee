-- Where the points of a shrunk panel stand in the frame of a panel.
use Rattle.std.specs.Prelude.{◌≡◌, ℕ, ◌<◌, ℤ, pos, ◌<ℤ◌}
use Rattle.carton_model.specs.HalfTurns.{Fold}
use Rattle.carton_model.specs.Parting.{Position}
use Rattle.carton_model.specs.Turning.{placed}
use Rattle.carton_panels.specs.Shrinking.{InShrunk}
use Rattle.carton_tree.specs.Trees.{Tree, turns_between}
use Rattle.carton_reach.specs.Spots.{shape_at}

-- the position of the flat point (x/w, y/w) at height 0
abbrev pub flat_at : ℤ → ℤ → ℤ → Position
flat_at x y w = record { x = x; y = y; z = pos 0; w = w }

-- where the free joints stand at these folds, a point of the shrunk panel p has this position in the frame of
-- panel f
pub record IsPointOf (t : Tree) (folds : ℕ → Fold) (p f : ℕ) (q : Position) : Type 0 where
  pub x : ℤ
  pub y : ℤ
  pub w : ℤ
  pub positive : pos 0 <ℤ w
  pub inside : InShrunk (shape_at t p).margin (shape_at t p).places x y w
  pub at : q ≡ placed folds (turns_between t p f) (flat_at x y w)

-- the folds of all free joints are fractions: their dens are positive
abbrev pub HaveDens : (ℕ → Fold) → Type 0
HaveDens folds = (k : ℕ) → 0 < (folds k).den
