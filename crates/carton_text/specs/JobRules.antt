-- The rules that a job keeps.
use Rattle.std.specs.Prelude.{◌≢◌, ℕ, ◌*◌, ◌<◌, ◌≤◌, List, length, All, AllPairs, flat_map, unsigned_abs}
use Rattle.carton_base.specs.declared.limits.TheConstants.{MOST_EDGES, MOST_TEAMS, MOST_TURNS, WIDEST_MARGIN}
use Rattle.carton_base.specs.declared.limits.TheConstants.{WIDEST_SLACK, WIDEST_STEP}
use Rattle.carton_base.specs.declared.ids.EdgeId.{EdgeId}
use Rattle.carton_base.specs.Grid.{IsGrid}
use Rattle.carton_text.specs.declared.job.Job.{Job}
use Rattle.carton_text.specs.declared.job.Setting.{Setting}
use Rattle.carton_text.specs.declared.job.TeamLine.{TeamLine}
use Rattle.carton_text.specs.declared.job_line.TheConstants.{MOST_MEMBERS}

-- a file may have an edge of that number
abbrev pub IsEdgeNumber : EdgeId → Type 0
IsEdgeNumber e = e.0 < MOST_EDGES

-- an edge, and a stop of the grid
pub record IsSetting (grid : ℕ) (s : Setting) : Type 0 where
  pub edge : IsEdgeNumber s.edge
  pub stop : unsigned_abs s.stop.0 ≤ 2 * grid

-- settings of which no two have one edge
pub record AreSettings (grid : ℕ) (settings : List Setting) : Type 0 where
  pub each : All (IsSetting grid) settings
  pub apart : AllPairs (λ s t. s.edge ≢ t.edge) settings

-- the edges of a team
pub record IsTeam (edges : List EdgeId) : Type 0 where
  pub some : 1 ≤ length edges
  pub few : length edges ≤ MOST_MEMBERS
  pub each : All IsEdgeNumber edges

-- the edges of all teams
abbrev pub members : List TeamLine → List EdgeId
members teams = flat_map (λ t. t.edges) teams

-- teams that name no edge twice
pub record AreTeams (teams : List TeamLine) : Type 0 where
  pub few : length teams ≤ MOST_TEAMS
  pub each : All (λ t. IsTeam t.edges) teams
  pub apart : AllPairs ◌≢◌ (members teams)

-- the number lies from low to high
pub record IsWithin (low high n : ℕ) : Type 0 where
  pub from : low ≤ n
  pub upto : n ≤ high

-- the job keeps every rule of its text, and the limits
pub record IsJob (j : Job) : Type 0 where
  pub on_grid : IsGrid j.grid
  pub stride : IsWithin 1 WIDEST_STEP j.stride
  pub margin : j.margin ≤ WIDEST_MARGIN
  pub slack : IsWithin 1 WIDEST_SLACK j.slack
  pub turns : IsWithin 1 MOST_TURNS j.turns
  pub starts : AreSettings j.grid j.starts
  pub targets : AreSettings j.grid j.targets
  pub teams : AreTeams j.teams
