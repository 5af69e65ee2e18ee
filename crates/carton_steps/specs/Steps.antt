-- Grid steps of teams: each member goes towards where it is to be, by at most the stride.
use Rattle.std.specs.Prelude.{◌≡◌, ℕ, ◌-◌, ◌/◌, ◌%◌, ◌<◌, ◌==◌, ℤ, pos, ◌+ℤ◌, ◌-ℤ◌, neg_ℤ, Bool, not}
use Rattle.std.specs.Prelude.{if◌then◌else◌, List, [], length, map, slice_get, Option, Some, None, option_map}
use Rattle.std.specs.Prelude.{unwrap_or}
use Rattle.std.specs.Int.{int_min, int_max}
use Rattle.std.specs.List.{list_any, range_with_len}
use Rattle.std.specs.Ordering.{int_eq}
use Rattle.carton_base.specs.declared.limits.TheConstants.{MOST_JOINTS}
use Rattle.carton_base.specs.declared.motion.State.{State}
use Rattle.carton_model.specs.Moves.{stop_of, IsState, IsStep}
use Rattle.carton_text.specs.declared.task.Task.{Task}

-- a change cut to the stride, either way
abbrev pub cut : ℕ → ℤ → ℤ
cut stride change = int_max (neg_ℤ (pos stride)) (int_min change (pos stride))

-- a stop after one step towards a goal: by the stride, or by its distance where that is less
abbrev pub toward : ℕ → ℤ → ℤ → ℤ
toward stride goal stop = stop +ℤ cut stride (goal -ℤ stop)

-- the joint at place k isn't at its goal
abbrev pub is_away : State → State → ℕ → Bool
is_away goal at k = not (int_eq (stop_of at k) (stop_of goal k))

-- the place is one of the members'
abbrev pub is_member : List ℕ → ℕ → Bool
is_member members k = list_any (λ p. p == k) members

-- the stop at place k after a step of these members
abbrev pub stop_after : ℕ → List ℕ → State → State → ℕ → ℤ
stop_after stride members goal at k =
    if is_member members k then toward stride (stop_of goal k) (stop_of at k) else stop_of at k

-- the state after a step of these members
abbrev pub moved : ℕ → List ℕ → State → State → State
moved stride members goal at =
    record at { stops = map (stop_after stride members goal at) (range_with_len 0 MOST_JOINTS) }

-- the step of these members; none where all of them are at their goals
abbrev pub step_to : ℕ → List ℕ → State → State → Option State
step_to stride members goal at =
    if list_any (is_away goal at) members then Some (moved stride members goal at) else None

-- the members of the team of that number
abbrev pub members_of : Task → ℕ → List ℕ
members_of t team = unwrap_or (option_map (λ m. m.places) (slice_get t.teams team)) []

-- where a step leads, forward or back
abbrev pub goal_of : Task → Bool → State
goal_of t forward = if forward then t.target else t.start

-- the grid step of the team of that number
unfoldable pub next_of : Task → State → ℕ → Bool → Option State
next_of t at team forward = step_to t.stride (members_of t team) (goal_of t forward) at

-- a grid step of some team leads from a to b
pub record IsGridStep (t : Task) (a b : State) : Type 0 where
  pub team : ℕ
  pub forward : Bool
  pub known : team < length t.teams
  pub leads : next_of t a team forward ≡ Some b

-- the grid steps counted by one number: two of each team, from the last team to the first, of each the one
-- back and then the one forward
abbrev pub step_of : Task → State → ℕ → Option State
step_of t at k = next_of t at (length t.teams - 1 - k / 2) (k % 2 == 1)

-- a state of the task's joints, on its grid
pub record IsStateOf (t : Task) (s : State) : Type 0 where
  pub state : IsState (length t.creases) s
  pub grid : s.grid ≡ t.start.grid

-- a move of so many joints leads from a to b, on one grid
pub record IsMove (joints : ℕ) (a b : State) : Type 0 where
  pub from : IsState joints a
  pub to : IsState joints b
  pub grid : b.grid ≡ a.grid
  pub steps : (k : ℕ) → k < joints → IsStep (stop_of a k) (stop_of b k)
