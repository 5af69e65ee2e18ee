-- How many grid steps a task takes at least.
use Rattle.std.specs.Prelude.{ℕ, max, ◌-ℤ◌, unsigned_abs, List, [], ◌∷◌}
use Rattle.std.specs.Int.{div_ceil}
use Rattle.std.specs.List.{sum_by}
use Rattle.carton_base.specs.declared.motion.State.{State}
use Rattle.carton_model.specs.Moves.{stop_of}
use Rattle.carton_text.specs.declared.task.Task.{Task}
use Rattle.carton_text.specs.declared.task.Team.{Team}

-- how far the joint at place k is from the target, in stops
abbrev pub distance : State → State → ℕ → ℕ
distance target at k = unsigned_abs (stop_of target k -ℤ stop_of at k)

-- the largest distance of these members, and 0 where there are none
abbrev pub farthest : State → State → List ℕ → ℕ
farthest target at [] = 0
farthest target at (k ∷ members) = max (distance target at k) (farthest target at members)

-- the steps by which a team can reach the target: its largest distance by the stride, rounded up
abbrev pub steps_left : Task → State → Team → ℕ
steps_left t at team = div_ceil (farthest t.target at team.places) t.stride

-- the sum over the teams of the steps that each has left
unfoldable pub estimate_of : Task → State → ℕ
estimate_of t at = sum_by (steps_left t at) t.teams
