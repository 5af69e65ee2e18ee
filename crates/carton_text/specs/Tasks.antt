-- The task of a job: which joints go from where to where, in which teams; or the first rule that fails.
use Rattle.std.specs.Prelude.{ℕ, ◌+◌, ◌/◌, ℤ, pos, ◌*ℤ◌, List, [], ◌∷◌, ◌++◌, length, map, filter_map, find}
use Rattle.std.specs.Prelude.{slice_get, slice_index_or, nat_lt, not, ◌&&◌, Bool, true, if◌then◌else◌, Option}
use Rattle.std.specs.Prelude.{Some, None, is_none, option_map, option_and_then, unwrap_or, ok_or, Result, Ok}
use Rattle.std.specs.Prelude.{Err}
use Rattle.std.specs.List.{list_any, range_with_len}
use Rattle.std.specs.Ordering.{int_eq}
use Rattle.carton_base.specs.Steps.{◌>>=◌, refuse_if, entries_from}
use Rattle.carton_base.specs.declared.limits.TheConstants.{MOST_JOINTS, MOST_TEAMS}
use Rattle.carton_base.specs.declared.ids.EdgeId.{EdgeId}
use Rattle.carton_base.specs.declared.ids.Stop.{Stop}
use Rattle.carton_text.specs.declared.job.Job.{Job}
use Rattle.carton_text.specs.declared.job.Setting.{Setting}
use Rattle.carton_text.specs.declared.job.TeamLine.{TeamLine}
use Rattle.carton_text.specs.declared.course.Course.{Course}
use Rattle.carton_text.specs.declared.task.Task.{Task}
use Rattle.carton_text.specs.declared.task.Team.{Team}
use Rattle.carton_text.specs.declared.job_error.JobError.{JobError}
use Rattle.carton_text.specs.declared.job_error.JobError.TheVariants.{NotAJoint, LockedEdge, NoAngles}
use Rattle.carton_text.specs.declared.job_error.JobError.TheVariants.{AngleNotExact, EmptyTeam, TooManyTeams}
use Rattle.carton_text.specs.Jobs.{is_same}
use Rattle.carton_text.specs.JobRules.{members}

-- the edge is one of these
abbrev pub is_among : EdgeId → List EdgeId → Bool
is_among e edges = list_any (λ d. is_same d e) edges

-- the edges of all start lines, then of all target lines, then of all team lines
abbrev pub edges_told : Job → List EdgeId
edges_told job = (map (λ s. s.edge) job.starts ++ map (λ s. s.edge) job.targets) ++ members job.teams

-- an edge that is none of the free joints is refused
abbrev pub refuse_edge : List EdgeId → Option EdgeId → Result Bool JobError
refuse_edge locked None = Ok true
refuse_edge locked (Some e) = if is_among e locked then Err (LockedEdge e) else Err (NotAJoint e)

-- the lines name free joints alone; the first edge that is none is refused
unfoldable pub only_joints : List EdgeId → List EdgeId → Job → Result Bool JobError
only_joints creases locked job = refuse_edge locked (find (λ e. not (is_among e creases)) (edges_told job))

-- the stop that one of the settings gives an edge
abbrev pub stop_set : List Setting → EdgeId → Option Stop
stop_set [] e = None
stop_set (s ∷ settings) e = if is_same s.edge e then Some s.stop else stop_set settings e

-- the stop of a flat joint
abbrev pub flat : Stop
flat = record { 0 = pos 0 }

-- a stop of eight to a right angle, on a grid
abbrev pub on_grid : ℕ → Stop → Stop
on_grid grid s = record { 0 = s.0 *ℤ pos (grid / 8) }

-- the stop that the file's angle of an edge has
abbrev pub file_stop : ℕ → Option (List (Option Stop)) → EdgeId → Option Stop
file_stop grid angles e =
    option_map (on_grid grid) (option_and_then (λ o. o) (option_and_then (λ a. slice_get a e.0) angles))

-- where a joint goes that no target line names
abbrev pub target_unset : Job → Option (List (Option Stop)) → EdgeId → Result Stop JobError
target_unset job angles e = if job.from_file then ok_or (file_stop job.grid angles e) (AngleNotExact e) else
    Ok flat

-- where a joint goes whose target line has the stop, if it has one
abbrev pub target_or : Result Stop JobError → Option Stop → Result Stop JobError
target_or unset None = unset
target_or unset (Some s) = Ok s

-- from where to where a joint goes
unfoldable pub course_of : Job → Option (List (Option Stop)) → EdgeId → Result Course JobError
course_of job angles e = do
  target ← target_or (target_unset job angles e) (stop_set job.targets e)
  Ok (record { edge = e; start = unwrap_or (stop_set job.starts e) flat; target = target })

-- the joint has to move
abbrev pub moves : Course → Bool
moves c = not (int_eq c.start.0 c.target.0)

-- the joint of that edge has to move
abbrev pub has_to_move : List Course → EdgeId → Bool
has_to_move courses e = list_any (λ c. is_same c.edge e && moves c) courses

-- the place of an edge among the joints, which are counted from k on
abbrev pub place_from : ℕ → List Course → EdgeId → Option ℕ
place_from k [] e = None
place_from k (c ∷ courses) e = if is_same c.edge e then Some k else place_from (k + 1) courses e

-- the places of a line's edges
abbrev pub places : List Course → List EdgeId → List ℕ
places courses edges = filter_map (place_from 0 courses) edges

-- the team of a line, some member of which has to move
unfoldable pub team_of : List Course → TeamLine → Result Team JobError
team_of courses t = do
  fine ← refuse_if (not (list_any (has_to_move courses) t.edges)) (EmptyTeam t.line)
  Ok (record { places = places courses t.edges })

-- a team for each joint, from place k on, that has to move and that no line names
abbrev pub lone_teams : List EdgeId → ℕ → List Course → List Team
lone_teams named k [] = []
lone_teams named k (c ∷ courses) =
    if moves c && not (is_among c.edge named) then (record { places = k ∷ [] })
    ∷ lone_teams named (k + 1) courses
    else lone_teams named (k + 1) courses

-- as many teams as there may be
abbrev pub not_too_many : List Team → Result (List Team) JobError
not_too_many teams = if nat_lt MOST_TEAMS (length teams) then Err (TooManyTeams (length teams)) else Ok teams

-- the teams of the lines, in order, and after them those of single joints, in the order of the edges
unfoldable pub teams_of : List TeamLine → List Course → Result (List Team) JobError
teams_of lines courses = do
  told ← entries_from (λ i. team_of courses) 0 lines
  not_too_many (told ++ lone_teams (members lines) 0 courses)

-- the stop in a place of a state: that of its joint, and 0 past the joints
abbrev pub stop_at : List ℤ → ℕ → ℤ
stop_at stops place = slice_index_or stops place (pos 0)

-- the stops of a state
abbrev pub all_stops : List ℤ → List ℤ
all_stops stops = map (stop_at stops) (range_with_len 0 MOST_JOINTS)

-- a task as plain lists; both of its states have the grid
pub record Outline : Type 0 where
  pub grid : ℕ
  pub stride : ℕ
  pub creases : List EdgeId
  pub start : List ℤ
  pub target : List ℤ
  pub teams : List Team
  pub slack : ℕ
  pub turns : ℕ

-- what a task tells
abbrev pub outline : Task → Outline
outline t = record {
  grid = t.start.grid;
  stride = t.stride;
  creases = t.creases;
  start = t.start.stops;
  target = t.target.stops;
  teams = t.teams;
  slack = t.slack;
  turns = t.turns;
}

-- the task of a job that names free joints alone, on a carton with these and whose file has these angles
abbrev pub outline_of : List EdgeId → Option (List (Option Stop)) → Job → Result Outline JobError
outline_of creases angles job = do
  fine ← refuse_if (job.from_file && is_none angles) NoAngles
  courses ← entries_from (λ i. course_of job angles) 0 creases
  teams ← teams_of job.teams courses
  Ok (record {
    grid = job.grid;
    stride = job.stride;
    creases = creases;
    start = all_stops (map (λ c. c.start.0) courses);
    target = all_stops (map (λ c. c.target.0) courses);
    teams = teams;
    slack = job.slack;
    turns = job.turns;
  })

-- the task of a job on a carton with these free joints and these locked ones
unfoldable pub task_of : List EdgeId → List EdgeId → Option (List (Option Stop)) → Job
    → Result Outline JobError
task_of creases locked angles job = do
  fine ← only_joints creases locked job
  outline_of creases angles job
