-- What a look at a panel in a frame tells.
use Rattle.std.specs.Prelude.{ℕ, ◌≤◌, length}
use Rattle.carton_base.specs.declared.limits.TheConstants.{LONGEST_PATH}
use Rattle.carton_base.specs.declared.motion.Motion.{Motion}
use Rattle.carton_panels.specs.Shapes.{IsShape}
use Rattle.carton_reach.specs.declared.reach.Reaches.{Reaches}
use Rattle.carton_reach.specs.Reaches.{AreReaches}
use Rattle.carton_reach.specs.Spots.{shape_at, spots_in, corners_in}
use Rattle.carton_tree.specs.Trees.{Tree, turns_between}

-- how far the corners of the shrunk panel p reach in the frame of panel f over a piece of the move
pub record IsReachIn (t : Tree) (motion : Motion) (p f index depth : ℕ) (r : Reaches) : Type 0 where
  pub near : length (turns_between t p f) ≤ LONGEST_PATH
  pub shape : IsShape (shape_at t p)
  pub reaches : AreReaches (spots_in t motion p f) 0 (corners_in t p) index depth r.axes
