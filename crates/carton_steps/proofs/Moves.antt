-- A grid step is a move, and has a number.
use Rattle.std.proofs.Common.{◌≡◌, ℕ, ◌+◌, ◌-◌, ◌*◌, ◌/◌, ◌%◌, ◌==◌, ◌<◌, ◌≤◌, Bool, true, false, List}
use Rattle.std.proofs.Common.{length, Some, refl, sym, ap, ◌∙◌, subst, arith, eq-eqb, inl, inr, lit≤}
use Rattle.std.specs.Prelude.{unsigned_abs}
use Rattle.std.specs.List.{list_any}
use Rattle.std.proofs.lemmas.Bool.{cases_lt, ne_eqb}
use Rattle.std.proofs.lemmas.Bool.Decides.{nat_tests}
use Rattle.std.proofs.lemmas.Int.{ints}
use Rattle.std.proofs.lemmas.Option.{cond_some}
use Rattle.carton_base.specs.Grid.{IsGrid}
use Rattle.carton_base.specs.declared.limits.TheConstants.{MOST_JOINTS, WIDEST_STEP}
use Rattle.carton_base.specs.declared.motion.State.{State}
use Rattle.carton_model.specs.Moves.{IsStop, IsStep, stop_of, IsState}
use Rattle.carton_text.specs.declared.task.Task.{Task}
use Rattle.carton_text.specs.TaskRules.{IsTask}
use Rattle.carton_steps.specs.Steps.{is_away, moved, step_to, members_of, goal_of, next_of}
use Rattle.carton_steps.specs.Steps.{IsGridStep, step_of, IsStateOf, IsMove}
use Rattle.carton_steps.proofs.Members.{IsIn, in_team, is_joint}
use Rattle.carton_steps.proofs.Stops.{near_toward, kept_toward, stop_of_moved, either_way, stop_stays}

-- the stops of a state are near 0, since no grid has more than 16 in a right angle
pub low_stops : (joints : ℕ) (s : State) → IsState joints s → (k : ℕ) → k < MOST_JOINTS
    → IsStop 16 (stop_of s k)
low_stops joints s state k lt =
    let low : (g : ℕ) → IsGrid g → g ≤ 16 = λ g on. grind (arith, nat_tests) in
    elim (cases_lt k joints) [
      | inl h ↦ omega (arith, state.stops k h, low s.grid s.on_grid)
      | inr h ↦ rw (state.others k h lt) (lit≤ tt)
    ]

-- a step of these members from a state is a move
pub is_move : (joints stride : ℕ) (members : List ℕ) (goal at : State) → joints ≤ MOST_JOINTS
    → stride ≤ WIDEST_STEP → ((p : ℕ) → IsIn members p → p < joints) → IsState joints goal
    → IsState joints at → goal.grid ≡ at.grid → IsMove joints at (moved stride members goal at)
is_move joints stride members goal at few short near there here same = record {
  from = here;
  to = record {
    stops = λ k lt.
        let g : unsigned_abs (stop_of goal k) ≤ 2 * at.grid =
        subst (λ n. unsigned_abs (stop_of goal k) ≤ 2 * n) same (there.stops k lt) in
        rw (stop_of_moved stride members goal at k (omega arith))
        (either_way (IsStop at.grid) stride members goal at k
        (kept_toward stride (2 * at.grid) (stop_of goal k) (stop_of at k) g (here.stops k lt))
        (here.stops k lt));
    others = λ k past lt.
        stop_stays stride members goal at k lt (λ p m is. absurd (omega (arith, near p m)))
        ∙ here.others k past lt;
  };
  grid = refl;
  steps = λ k lt.
      rw (stop_of_moved stride members goal at k (omega arith))
      (either_way (IsStep (stop_of at k)) stride members goal at k
      (omega (arith, near_toward stride (stop_of goal k) (stop_of at k))) (omega (arith, ints)));
}

-- what a step leads to is the state after it
pub is_moved : (stride : ℕ) (members : List ℕ) (goal at b : State) → step_to stride members goal at ≡ Some b
    → moved stride members goal at ≡ b
is_moved stride members goal at b h =
    (cond_some (list_any (is_away goal at) members) (moved stride members goal at) b h).1

-- the start is a state of the task's joints, on its grid, and so is where a step leads
pub is_start : (t : Task) → IsTask t → IsStateOf t t.start
is_start t rules = record { state = rules.start; grid = refl }

goal_stands : (t : Task) (forward : Bool) → IsTask t → IsStateOf t (goal_of t forward)
goal_stands t true rules = record { state = rules.target; grid = t.one_grid }
goal_stands t false rules = is_start t rules

-- a step of a team from such a state
pub team_moves : (t : Task) (a : State) (team : ℕ) (forward : Bool) → IsTask t → IsStateOf t a
    → IsMove (length t.creases) a (moved t.stride (members_of t team) (goal_of t forward) a)
team_moves t a team forward rules at =
    let end = goal_stands t forward rules in
    is_move (length t.creases) t.stride (members_of t team) (goal_of t forward) a rules.few rules.stride.upto
    (λ p m. is_joint t rules p (in_team t.teams team p m)) end.state at.state (end.grid ∙ sym at.grid)

-- a grid step from such a state is a move
pub grid_step_moves : (t : Task) (a b : State) → IsTask t → IsStateOf t a → IsGridStep t a b
    → IsMove (length t.creases) a b
unfolding next_of
grid_step_moves t a b rules at step =
    subst (IsMove (length t.creases) a) (is_moved t.stride (members_of t step.team) (goal_of t step.forward) a
    b step.leads) (team_moves t a step.team step.forward rules at)

-- and a move leads from one such state to another
pub still_of : (t : Task) (a b : State) → IsStateOf t a → IsMove (length t.creases) a b → IsStateOf t b
still_of t a b at move = record { state = move.to; grid = move.grid ∙ at.grid }

-- a step of some number is a grid step
pub grid_step_of : (t : Task) (a b : State) (k : ℕ) → k < 2 * length t.teams → step_of t a k ≡ Some b
    → IsGridStep t a b
grid_step_of t a b k lt step = record {
  team = length t.teams - 1 - k / 2;
  forward = k % 2 == 1;
  known = omega (arith, lt);
  leads = step;
}

-- a grid step has a number
pub number_of_step : (t : Task) (a b : State) → IsGridStep t a b → (k : ℕ) × (k < 2 * length t.teams)
    × (step_of t a k ≡ Some b)
number_of_step t a b step = by_way step.forward step.leads
  where
    numbered : (k : ℕ) (way : Bool) → length t.teams - 1 - k / 2 ≡ step.team → (k % 2 == 1) ≡ way
        → next_of t a step.team way ≡ Some b → step_of t a k ≡ Some b
    numbered k way half odd e =
        ap (λ n. next_of t a n (k % 2 == 1)) half ∙ ap (λ w. next_of t a step.team w) odd ∙ e

    back : ℕ
    back = 2 * (length t.teams - 1 - step.team)

    by_way : (way : Bool) → next_of t a step.team way ≡ Some b → (k : ℕ) × (k < 2 * length t.teams)
        × (step_of t a k ≡ Some b)
    by_way true e =
        let half : length t.teams - 1 - (back + 1) / 2 ≡ step.team = omega (arith, step.known) in
        (back + 1, omega (arith, step.known), numbered (back + 1) true half (eq-eqb _ _ (omega arith)) e)
    by_way false e =
        let half : length t.teams - 1 - back / 2 ≡ step.team = omega (arith, step.known) in
        let even = ne_eqb (back % 2) 1 (λ z. absurd (omega (arith, z))) in
        (back, omega (arith, step.known), numbered back false half even e)
