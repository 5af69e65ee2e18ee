-- The rules that a plan keeps.
use Rattle.std.specs.Prelude.{◌≡◌, ℕ, ◌<◌, ◌≤◌, List, [], ◌∷◌, length, All, AllPairs}
use Rattle.carton_base.specs.declared.limits.TheConstants.{MOST_STATES}
use Rattle.carton_base.specs.declared.ids.EdgeId.{EdgeId}
use Rattle.carton_base.specs.declared.motion.State.{State}
use Rattle.carton_model.specs.Moves.{IsState}
use Rattle.carton_text.specs.declared.plan.TheConstants.{MOST_CREASES}
use Rattle.carton_text.specs.declared.plan.Plan.{Plan}
use Rattle.carton_text.specs.JobRules.{IsEdgeNumber}

-- free joints in the order of their edges
pub record AreCreases (creases : List EdgeId) : Type 0 where
  pub few : length creases ≤ MOST_CREASES
  pub each : All IsEdgeNumber creases
  pub rising : AllPairs (λ d e. d.0 < e.0) creases

-- the grid of the first state
abbrev pub grid_of : List State → ℕ
grid_of [] = 8
grid_of (s ∷ states) = s.grid

-- states of so many joints, all of one grid
pub record AreStates (joints : ℕ) (states : List State) : Type 0 where
  pub some : 1 ≤ length states
  pub few : length states ≤ MOST_STATES
  pub each : All (IsState joints) states
  pub one_grid : All (λ s. s.grid ≡ grid_of states) states

-- the plan keeps every rule of its text
pub record IsPlan (p : Plan) : Type 0 where
  pub creases : AreCreases p.creases
  pub states : AreStates (length p.creases) p.states
