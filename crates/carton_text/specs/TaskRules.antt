-- The rules that a task keeps.
use Rattle.std.specs.Prelude.{◌≢◌, ℕ, ◌<◌, ◌≤◌, List, length, All, AllPairs, flat_map}
use Rattle.carton_base.specs.declared.limits.TheConstants.{MOST_JOINTS, MOST_TEAMS, MOST_TURNS, WIDEST_SLACK}
use Rattle.carton_base.specs.declared.limits.TheConstants.{WIDEST_STEP}
use Rattle.carton_model.specs.Moves.{IsState}
use Rattle.carton_text.specs.declared.task.Task.{Task}
use Rattle.carton_text.specs.declared.task.Team.{Team}
use Rattle.carton_text.specs.JobRules.{IsWithin}

-- the places of all teams
abbrev pub all_places : List Team → List ℕ
all_places teams = flat_map (λ t. t.places) teams

-- teams of so many joints, which have no place twice
pub record AreTeamsOf (joints : ℕ) (teams : List Team) : Type 0 where
  pub few : length teams ≤ MOST_TEAMS
  pub each : All (λ k. k < joints) (all_places teams)
  pub apart : AllPairs ◌≢◌ (all_places teams)

-- the task keeps the limits
pub record IsTask (t : Task) : Type 0 where
  pub few : length t.creases ≤ MOST_JOINTS
  pub start : IsState (length t.creases) t.start
  pub target : IsState (length t.creases) t.target
  pub teams : AreTeamsOf (length t.creases) t.teams
  pub stride : IsWithin 1 WIDEST_STEP t.stride
  pub slack : IsWithin 1 WIDEST_SLACK t.slack
  pub turns : IsWithin 1 MOST_TURNS t.turns
