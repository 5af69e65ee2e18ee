-- What a judge of a range of folds is: the carton and the slack that it judges by.
use Rattle.std.specs.Prelude.{ℕ, ◌≤◌, List, Bool}
use Rattle.carton_base.specs.declared.limits.TheConstants.{WIDEST_SLACK}
use Rattle.carton_base.specs.declared.motion.Motion.{Motion}
use Rattle.carton_base.specs.declared.motion.State.{State}
use Rattle.carton_reach.specs.Ranges.{IsMotionBetween, IsRange}
use Rattle.carton_tree.specs.Trees.{Tree}
use Rattle.carton_part.specs.Closing.{AreRowsOf}

pub record Bench : Type 0 where
  pub carton : Tree
  pub slack : ℕ

-- the slack is one that a judge may have, and the table has the open pairs of all moves between the two
-- states
pub record IsReady (carton : Tree) (slack : ℕ) (low high : State) (rows : List (List Bool)) : Type 0 where
  pub some : 1 ≤ slack
  pub narrow : slack ≤ WIDEST_SLACK
  pub range : IsRange low high
  pub pairs : (motion : Motion) → IsMotionBetween low high motion → AreRowsOf carton motion rows
