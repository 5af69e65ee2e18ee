-- What holds of parted panels.
use Rattle.std.specs.Prelude.{ℕ, ◌↔◌, ℤ, ◌≤ℤ◌}
use Rattle.carton_base.specs.Moments.{IsMoment}
use Rattle.carton_base.specs.declared.motion.Motion.{Motion}
use Rattle.carton_model.specs.HalfTurns.{Fold}
use Rattle.carton_model.specs.Moves.{fold_at}
use Rattle.carton_panels.specs.Shapes.{IsShape}
use Rattle.carton_tree.specs.Trees.{Tree}
use Rattle.carton_reach.specs.Beyond.{AreCornersParted}
use Rattle.carton_reach.specs.Spots.{shape_at, corners_in, spots_in}
use Rattle.carton_part.specs.Parted.{ArePartedIn, ArePartedBy}

-- at each moment of a move, all points of two shrunk panels are parted in a frame exactly where their corners
-- are
abbrev pub CornersPartPanels : Type 0
CornersPartPanels = (t : Tree) (motion : Motion) (a b f : ℕ) (halves : ℤ) (n d : ℕ) → IsShape (shape_at t a)
    → IsShape (shape_at t b) → IsMoment n d
    → AreCornersParted halves (spots_in t motion a f) (corners_in t a) (spots_in t motion b f) (corners_in t
    b) n d ↔ ArePartedIn t (fold_at motion n d) a b halves f

-- panels that are parted by more than so many halves are parted by more than fewer
abbrev pub PartedByLess : Type 0
PartedByLess = (t : Tree) (folds : ℕ → Fold) (a b : ℕ) (more less : ℤ) → ArePartedBy t folds a b more
    → less ≤ℤ more → ArePartedBy t folds a b less
