-- A plan that a search found is sound for the carton and the task.
use Rattle.std.proofs.Common.{◌≡◌, ◌∙◌, refl, sym, ap, subst, ℕ, zero, suc, ◌+◌, ◌≤◌, List, [], ◌∷◌, length}
use Rattle.std.proofs.Common.{slice_get, Some, pos, ◌-ℤ◌, arith}
use Rattle.std.specs.Prelude.{unsigned_abs}
use Rattle.std.proofs.lemmas.Int.{ints}
use Rattle.std.proofs.lemmas.Option.{same_Some, slice_get_within}
use Rattle.carton_base.specs.declared.limits.TheConstants.{MOST_JOINTS}
use Rattle.carton_base.specs.declared.motion.State.{State}
use Rattle.carton_check.specs.Sound.{IsSound, KeepsApart}
use Rattle.carton_check.specs.declared.checked.Checked.TheVariants.{Holds}
use Rattle.carton_check.proofs.Implied.{sound_where}
use Rattle.carton_model.specs.Moves.{stop_of}
use Rattle.carton_part.specs.Parted.{AreAllParted}
use Rattle.carton_place.specs.States.{fold_in}
use Rattle.carton_search.specs.Clear.{ClearStep, StayApart, AreApart}
use Rattle.carton_search.specs.Ends.{IsEnd}
use Rattle.carton_search.specs.Paths.{Follows, last_of, IsPath, moves_of}
use Rattle.carton_search.specs.declared.search_end.SearchEnd.TheVariants.{Found}
use Rattle.carton_search.proofs.Wider.{path_long}
use Rattle.carton_steps.specs.Steps.{next_of, moved, members_of, goal_of, IsGridStep}
use Rattle.carton_steps.proofs.Moves.{is_moved}
use Rattle.carton_steps.proofs.Stops.{near_toward, stop_of_moved, either_way}
use Rattle.carton_text.specs.TaskRules.{IsTask}
use Rattle.carton_text.specs.declared.plan.Plan.{Plan}
use Rattle.carton_text.specs.declared.task.Task.{Task}
use Rattle.carton_text.specs.PlanMoves.{IsFirst, IsLast, IsMove, IsStrideFrom}
use Rattle.carton_text.specs.TaskPlans.{HasMoves}
use Rattle.carton_tree.specs.Cartons.{IsCarton}
use Rattle.carton_tree.specs.Trees.{Tree}
use Rattle.carton_plan_commands.specs.Plan.{IsBest}
use Rattle.carton_setup.specs.Setups.{IsRight}
use Rattle.carton_setup.specs.declared.setup.Setup.{Setup}

-- each move of a path is one of its steps
follows_at : (R : State → State → Type 0) (a : State) (rest : List State) (i : ℕ) (s r : State)
    → Follows R a rest → IsMove (a ∷ rest) i s r → R s r
follows_at R a [] i s r walk m = let w = slice_get_within (a ∷ []) (i + 1) r m.to in absurd (omega (arith, w))
follows_at R a (b ∷ rest) zero s r walk m =
    subst (λ x. R x r) (same_Some a s m.from) (subst (λ x. R a x) (same_Some b r m.to) walk.0)
follows_at R a (b ∷ rest) (suc i) s r walk m =
    follows_at R b rest i s r walk.1 (record { from = m.from; to = later m.to })
  where
    later : slice_get (a ∷ b ∷ rest) (suc i + 1) ≡ Some r → slice_get (b ∷ rest) (i + 1) ≡ Some r
    later e = let next : suc i + 1 ≡ suc (i + 1) = omega arith in
        subst (λ k. slice_get (a ∷ b ∷ rest) k ≡ Some r) next e

path_at : (R : State → State → Type 0) (a b : State) (states : List State) (i : ℕ) (s r : State)
    → IsPath R a b states → IsMove states i s r → R s r
path_at R a b [] i s r path m = absurd path
path_at R a b (x ∷ rest) i s r path m =
    follows_at R x rest i s r (subst (λ y. Follows R y rest) (sym path.0) path.1) m

-- its first state, and its last
path_first : (R : State → State → Type 0) (a b : State) (states : List State) → IsPath R a b states
    → IsFirst states a
path_first R a b [] path = absurd path
path_first R a b (x ∷ rest) path = ap (λ y. Some y) path.0

last_at : (a : State) (rest : List State) → slice_get (a ∷ rest) (length rest) ≡ Some (last_of a rest)
last_at a [] = refl
last_at a (b ∷ rest) = last_at b rest

path_last : (R : State → State → Type 0) (a b : State) (states : List State) → IsPath R a b states
    → IsLast states b
path_last R a b [] path = absurd path
path_last R a b (x ∷ rest) path =
    (length rest, omega arith, last_at x rest ∙ ap (λ y. Some y) (ap (λ y. last_of y rest) path.0 ∙ path.2))

-- a step of these members changes each stop by the stride at most
moved_within : (joints stride : ℕ) (members : List ℕ) (goal at : State) → joints ≤ MOST_JOINTS
    → IsStrideFrom joints stride at (moved stride members goal at)
moved_within joints stride members goal at few = λ k lt.
    rw (stop_of_moved stride members goal at k (omega (arith, few, lt)))
    (either_way (λ z. unsigned_abs (z -ℤ stop_of at k) ≤ stride) stride members goal at k
    (near_toward stride (stop_of goal k) (stop_of at k)) (omega (arith, ints)))

step_within : (t : Task) (a b : State) → IsTask t → IsGridStep t a b
    → IsStrideFrom (length t.creases) t.stride a b
unfolding next_of
step_within t a b rules step =
    let members = members_of t step.team in
    let goal = goal_of t step.forward in
    subst (IsStrideFrom (length t.creases) t.stride a) (is_moved t.stride members goal a b step.leads)
    (moved_within (length t.creases) t.stride members goal a rules.few)

-- on the path all panels that share no crease are parted
keeps : (t : Tree) (task : Task) (states : List State) → AreApart t (pos 0) task.start
    → IsPath (ClearStep task t) task.start task.target states → KeepsApart t states (pos 0)
unfolding StayApart AreApart
keeps t task states clear path = record {
  first =
      λ s e. subst (λ x. AreAllParted t (fold_in x) (pos 0))
      (same_Some task.start s (sym (path_first (ClearStep task t) task.start task.target states path) ∙ e))
      clear;
  moves = λ i s r m. (path_at (ClearStep task t) task.start task.target states i s r path m).1;
}

has_moves : (t : Tree) (task : Task) (plan : Plan) → IsTask task → plan.creases ≡ task.creases
    → IsPath (ClearStep task t) task.start task.target plan.states → HasMoves task plan
has_moves t task plan rules same path = (
  (
    (same, path_first (ClearStep task t) task.start task.target plan.states path),
    path_last (ClearStep task t)
        task.start task.target plan.states path,
  ),
  λ i s r m. step_within task s r rules (path_at (ClearStep task t) task.start task.target plan.states i s r
      path m).0,
)

sound : (t : Tree) (task : Task) (plan : Plan) → IsCarton t → IsTask task → plan.creases ≡ task.creases
    → IsPath (ClearStep task t) task.start task.target plan.states → KeepsApart t plan.states (pos 0)
    → IsSound t task plan
sound t task plan carton rules same path apart =
    let moves = moves_of plan.states in
    sound_where t task plan (Holds moves) carton (
      has_moves t task plan rules same path,
      (path_long (ClearStep task t) task.start task.target plan.states path, apart),
    ) moves refl

-- so it is one that may be told
pub best : (s : Setup) (plan : Plan) → IsRight s → IsEnd s.task s.carton (Found plan) → IsBest s plan
best s plan right is =
    let apart = keeps s.carton s.task plan.states is.clear is.path.0 in
    record {
      rules = is.plan.1 right.in_plans;
      sound = sound s.carton s.task plan right.carton right.task is.plan.0 is.path.0 apart;
      clear = apart;
      path = is.path;
      shortest = is.least;
      still = is.still;
      turns = is.turns;
    }
