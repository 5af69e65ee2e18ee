-- States and plans as plain data: what they tell, without the conditions that their types carry.
use Rattle.std.specs.Prelude.{ℕ, ℤ, List, map}
use Rattle.carton_base.specs.declared.ids.EdgeId.{EdgeId}
use Rattle.carton_base.specs.declared.motion.State.{State}
use Rattle.carton_text.specs.declared.grid.Grid.{Grid}
use Rattle.carton_text.specs.declared.plan.Plan.{Plan}
use Rattle.carton_text.specs.Tasks.{all_stops}

-- the grid, and a stop for each place
pub record PlainState : Type 0 where
  pub grid : ℕ
  pub stops : List ℤ

abbrev pub plain_state : State → PlainState
plain_state s = record { grid = s.grid; stops = all_stops s.stops }

pub record PlainPlan : Type 0 where
  pub creases : List EdgeId
  pub states : List PlainState

abbrev pub plain : Plan → PlainPlan
plain p = record { creases = p.creases; states = map plain_state p.states }

-- what the lines of a plan have told before its end
pub record PlanSoFar : Type 0 where
  pub grid : Grid
  pub creases : List EdgeId
  pub states : List PlainState
