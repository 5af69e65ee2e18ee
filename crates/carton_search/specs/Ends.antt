-- What the ends of a search say.
use Rattle.std.specs.Prelude.{◌≡◌, ◌⊎◌, ℕ, ◌≤◌, List, length, pos}
use Rattle.carton_base.specs.declared.ids.PanelId.{PanelId}
use Rattle.carton_base.specs.declared.limits.TheConstants.{MOST_STATES}
use Rattle.carton_base.specs.declared.motion.State.{State}
use Rattle.carton_place.specs.States.{fold_in}
use Rattle.carton_part.specs.Parted.{AreStrangers, ArePartedBy}
use Rattle.carton_steps.specs.Estimates.{estimate_of}
use Rattle.carton_text.specs.PlanRules.{AreCreases, IsPlan}
use Rattle.carton_tree.specs.Trees.{Tree}
use Rattle.carton_text.specs.declared.plan.Plan.{Plan}
use Rattle.carton_text.specs.declared.task.Task.{Task}
use Rattle.carton_search.specs.Clear.{ClearStep, AreApart}
use Rattle.carton_search.specs.Paths.{IsPath, moves_of, IsSlackPath, AreManyWithin, HasFarPath}
use Rattle.carton_search.specs.declared.search_end.SearchEnd.{SearchEnd}
use Rattle.carton_search.specs.declared.search_end.SearchEnd.TheVariants.{Found, StartBlocked, NoPath}
use Rattle.carton_search.specs.declared.search_end.SearchEnd.TheVariants.{OutOfTurns, Memory}

abbrev pub IfFound : SearchEnd → (Plan → Type 0) → Type 0
IfFound (Found plan) P = P plan
IfFound _ P = Unit {0}

abbrev pub IfStartBlocked : SearchEnd → (PanelId → PanelId → Type 0) → Type 0
IfStartBlocked (StartBlocked a b) P = P a b
IfStartBlocked _ P = Unit {0}

abbrev pub IfNoPath : SearchEnd → Type 0 → Type 0
IfNoPath NoPath P = P
IfNoPath _ P = Unit {0}

abbrev pub IfOutOfTurns : SearchEnd → (ℕ → Type 0) → Type 0
IfOutOfTurns (OutOfTurns moves) P = P moves
IfOutOfTurns _ P = Unit {0}

abbrev pub IsFoundOrMemory : SearchEnd → Type 0
IsFoundOrMemory (Found plan) = Unit {0}
IsFoundOrMemory Memory = Unit {0}
IsFoundOrMemory _ = ⊥

-- why a search runs out of turns at so many moves: more different states than there are turns lie within
-- them, or they are one more than a plan may have and a path of more than 3000 different states begins at the
-- start
abbrev pub IsTurnsCause : Task → Tree → ℕ → Type 0
IsTurnsCause task carton moves =
    AreManyWithin (ClearStep task carton) (estimate_of task) task.start task.target task.turns moves
    ⊎ ((moves ≡ 4096) × HasFarPath (ClearStep task carton) task.start)

-- what a found plan is: it keeps its rules where the task's creases keep theirs
abbrev pub IsPlanFor : Task → Plan → Type 0
IsPlanFor task plan = (plan.creases ≡ task.creases) × (AreCreases task.creases → IsPlan plan)

-- clear steps from the start to the target, not more than a plan may have
abbrev pub IsClearPath : Task → Tree → List State → Type 0
IsClearPath task carton states = IsPath (ClearStep task carton) task.start task.target states
    × (length states ≤ MOST_STATES)

-- no slack path has fewer states
abbrev pub IsShortest : Task → Tree → List State → Type 0
IsShortest task carton states = (p : List State) → IsSlackPath task carton p → length states ≤ length p

-- panels a and b share no crease, and aren't parted by more than half the slack in the state
abbrev pub AreBlockedAt : Task → Tree → State → ℕ → ℕ → Type 0
AreBlockedAt task carton s a b = AreStrangers carton a b
    × ¬ (ArePartedBy carton (fold_in s) a b (pos task.slack))

-- what an end says
pub record IsEnd (task : Task) (carton : Tree) (end : SearchEnd) : Type 0 where
  pub plan : IfFound end (IsPlanFor task)
  pub path : IfFound end (λ plan. IsClearPath task carton plan.states)
  pub clear : IfFound end (λ plan. AreApart carton (pos 0) task.start)
  pub least : IfFound end (λ plan. IsShortest task carton plan.states)
  pub still : IfFound end (λ plan. task.start ≡ task.target → length plan.states ≡ 1)
  pub turns : IfFound end (λ plan. moves_of plan.states ≤ task.turns)
  pub blocked : IfStartBlocked end (λ a b. AreBlockedAt task carton task.start a.0 b.0)
  pub none : IfNoPath end ((p : List State) → IsSlackPath task carton p → ⊥)
  pub begun : IfNoPath end (AreApart carton (pos 0) task.start)
  pub few : IfOutOfTurns end (λ moves. (p : List State) → IsSlackPath task carton p → moves ≤ moves_of p)
  pub cause : IfOutOfTurns end (IsTurnsCause task carton)
