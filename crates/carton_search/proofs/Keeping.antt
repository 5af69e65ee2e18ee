-- What the steps of a task and the estimate keep.
use Rattle.std.proofs.Common.{◌+◌, ◌≤◌, List, [], ◌∷◌, subst}
use Rattle.carton_base.specs.declared.motion.State.{State}
use Rattle.carton_text.specs.declared.task.Task.{Task}
use Rattle.carton_text.specs.TaskRules.{IsTask}
use Rattle.carton_steps.specs.Steps.{IsGridStep, IsStateOf}
use Rattle.carton_steps.specs.Estimates.{estimate_of}
use Rattle.carton_steps.proofs.Falling as falling
use Rattle.carton_steps.proofs.Moves.{grid_step_moves, is_start, still_of}
use Rattle.carton_search.specs.Paths.{Follows, last_of, IsPath}

module _ (task : Task) (rules : IsTask task) where
  pub step_falls : (a b : State) → IsGridStep task a b → estimate_of task a ≤ estimate_of task b + 1
  step_falls a b s = falling.step_falls task a b rules s

  pub step_keeps : (a b : State) → IsStateOf task a → IsGridStep task a b → IsStateOf task b
  step_keeps a b at s = still_of task a b at (grid_step_moves task a b rules at s)

  module _ (R : State → State → Type 0) (steps : (a b : State) → R a b → IsGridStep task a b) where
    follows_keep : (a : State) (rest : List State) → IsStateOf task a → Follows R a rest
        → IsStateOf task (last_of a rest)
    follows_keep a [] at walk = at
    follows_keep a (b ∷ rest) at walk = follows_keep b rest (step_keeps a b at (steps a b walk.0)) walk.1

    -- a state that steps reach from the start is one of the task's
    pub path_keeps : (s : State) (p : List State) → IsPath R task.start s p → IsStateOf task s
    path_keeps s [] path = absurd path
    path_keeps s (a ∷ rest) path =
        subst (IsStateOf task) path.2 (follows_keep task.start rest (is_start task rules) path.1)

    pub low_along : (s : State) (p : List State) → IsPath R task.start s p → estimate_of task s ≤ 768
    low_along s p path = falling.low task s rules (path_keeps s p path).state
