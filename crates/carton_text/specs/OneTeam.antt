-- The joints of a task that have to move are each in one team.
use Rattle.std.specs.Prelude.{◌≡◌, ◌≢◌, ℕ, ◌<◌, List, length, slice_get, Contains, IsSomeAnd}
use Rattle.carton_model.specs.Moves.{stop_of}
use Rattle.carton_text.specs.declared.task.Task.{Task}
use Rattle.carton_text.specs.declared.task.Team.{Team}

-- team i of these has the joint at place k
abbrev pub HasJoint : List Team → ℕ → ℕ → Type 0
HasJoint teams k i = IsSomeAnd (slice_get teams i) (λ t. Contains t.places k)

-- one of the teams has the joint at place k, and no other has
pub record IsInOneTeam (teams : List Team) (k : ℕ) : Type 0 where
  pub team : ℕ
  pub has : HasJoint teams k team
  pub alone : (i : ℕ) → HasJoint teams k i → i ≡ team

-- the start of the joint at place k isn't its target
pub record HasToMove (task : Task) (k : ℕ) : Type 0 where
  pub joint : k < length task.creases
  pub apart : stop_of task.start k ≢ stop_of task.target k

-- each joint that has to move is in one team
abbrev pub AreInOneTeam : Task → Type 0
AreInOneTeam task = (k : ℕ) → HasToMove task k → IsInOneTeam task.teams k
