-- Moves of a plan's states: what holds at a place, and the states whose stops change by the stride at most.
use Rattle.std.proofs.Common.{◌≡◌, ◌∙◌, ap, sym, subst, inl, inr, ℕ, ◌+◌, List, length, slice_get, All}
use Rattle.std.proofs.Common.{Some, arith}
use Rattle.std.proofs.lemmas.Bool.{cases_lt}
use Rattle.std.proofs.lemmas.Int.{ints}
use Rattle.std.proofs.lemmas.List.Elements.{All-get_or}
use Rattle.std.proofs.lemmas.Option.{same_Some, slice_get_within, get_or_from_slice_get}
use Rattle.carton_base.specs.declared.limits.TheConstants.{MOST_JOINTS, WIDEST_STEP}
use Rattle.carton_base.specs.declared.motion.State.{State}
use Rattle.carton_model.specs.Moves.{IsState}
use Rattle.carton_place.proofs.Still.{in_all_places}
use Rattle.carton_tree.specs.Trees.{Tree}
use Rattle.carton_text.specs.declared.plan.Plan.{Plan}
use Rattle.carton_text.specs.declared.task.Task.{Task}
use Rattle.carton_text.specs.PlanMoves.{IsMove, IsStrideFrom, HaveMoves, AreMoves}
use Rattle.carton_text.specs.PlanRules.{IsPlan, grid_of}
use Rattle.carton_text.specs.TaskPlans.{IsFineMove, HasMoves, IsPlanOf}
use Rattle.carton_text.specs.TaskRules.{IsTask}

-- what holds of all elements holds of the one at a place
pub at_place : {X : Type 0} (P : X → Type 0) (xs : List X) (i : ℕ) (x : X) → All P xs
    → slice_get xs i ≡ Some x → P x
at_place P xs i x all e =
    subst P (get_or_from_slice_get xs i x x e) (All-get_or P xs i x (slice_get_within xs i x e) all)

-- what holds of a move at a place holds of each at that place
pub of_move : (Q : State → State → Type 0) (states : List State) (i : ℕ) (s r x y : State)
    → IsMove states i s r → IsMove states i x y → Q s r → Q x y
of_move Q states i s r x y m n q =
    subst (λ z. Q z y) (same_Some s x (sym m.from ∙ n.from))
    (subst (λ z. Q s z) (same_Some r y (sym m.to ∙ n.to)) q)

pub fine_at : (joints stride : ℕ) (states : List State) (i : ℕ) (s r : State) → IsMove states i s r
    → IsStrideFrom joints stride s r → IsFineMove joints stride states i
fine_at joints stride states i s r m h = λ x y n. of_move (IsStrideFrom joints stride) states i s r x y m n h

-- places past the joints stand still
pub small_step : (joints : ℕ) (s r : State) → IsState joints s → IsState joints r
    → IsStrideFrom joints WIDEST_STEP s r → IsStrideFrom MOST_JOINTS WIDEST_STEP s r
small_step joints s r hs hr h = λ k l. elim (cases_lt k joints) [
  | inl lt ↦ h k lt
  | inr ge ↦ let a = hs.others k (omega (arith, ge)) l in let b = hr.others k (omega (arith, ge)) l in
      omega (arith, ints, a, b)
]

-- so the moves of a plan's joints are moves
pub moves_within : (plan : Plan) → IsPlan plan → HaveMoves (length plan.creases) plan.states
    → AreMoves plan.states
moves_within plan p moves =
    let joints = length plan.creases in
    let each : (i : ℕ) (s : State) → slice_get plan.states i ≡ Some s
    → IsState joints s = λ i s e. at_place (IsState joints) plan.states i s p.states.each e in
    let grid : (i : ℕ) (s : State) → slice_get plan.states i ≡ Some s → s.grid ≡ grid_of plan.states =
    λ i s e. at_place (λ (x : State). x.grid ≡ grid_of plan.states) plan.states i s p.states.one_grid e in
    record {
      few = p.states.few;
      each = λ i s e. in_all_places joints s (each i s e);
      one_grid = λ i s r m. grid (i + 1) r m.to ∙ sym (grid i s m.from);
      steps = λ i s r m. small_step joints s r (each i s m.from) (each (i + 1) r m.to) (moves i s r m);
    }

-- moves of a task's stride are none of more than the widest
task_moves : (task : Task) (plan : Plan) → IsTask task → HasMoves task plan
    → HaveMoves (length plan.creases) plan.states
task_moves task plan kept has = λ i s r m k lt.
    let e = ap (λ xs. length xs) has.0.0.0 in
    let step = has.1 i s r m k (omega (arith, lt, e)) in
    let wide = kept.stride.upto in
    omega (arith, step, wide)

pub moves_of : (task : Task) (plan : Plan) → IsTask task → IsPlan plan → HasMoves task plan
    → AreMoves plan.states
moves_of task plan t p h = moves_within plan p (task_moves task plan t h)

pub moves_of_plan : (t : Tree) (plan : Plan) → IsPlanOf t plan → AreMoves plan.states
moves_of_plan t plan p = moves_within plan p.rules p.moves

-- a plan that does what a task of the carton asks is a plan of the carton
pub plan_of_task : (t : Tree) (task : Task) (plan : Plan) → IsTask task → IsPlan plan
    → task.creases ≡ t.creases → HasMoves task plan → IsPlanOf t plan
plan_of_task t task plan kept rules same has =
    record { rules = rules; creases = has.0.0.0 ∙ same; moves = task_moves task plan kept has }
