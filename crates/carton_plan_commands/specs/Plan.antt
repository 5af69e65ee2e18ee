-- What `plan` tells: a plan with fewest moves, or why there is none.
use Rattle.std.specs.Prelude.{⊤, ◌≡◌, ℕ, ◌≤◌, pos, List, ◌++◌, length, codes}
use Rattle.carton_base.specs.declared.motion.State.{State}
use Rattle.carton_check.specs.Sound.{IsSound, KeepsApart}
use Rattle.carton_search.specs.Clear.{AreApart}
use Rattle.carton_search.specs.Ends.{IsClearPath, IsShortest, IsTurnsCause, AreBlockedAt}
use Rattle.carton_search.specs.Paths.{IsSlackPath, moves_of}
use Rattle.carton_text.specs.PlanRules.{IsPlan}
use Rattle.carton_text.specs.Plans.{spelling}
use Rattle.carton_text.specs.declared.plan.Plan.{Plan}
use Rattle.carton_setup.specs.Outcomes.{Outcomes, ◌>>=◌, gives, values}
use Rattle.carton_setup.specs.Printed.{line, spaced}
use Rattle.carton_setup.specs.Setups.{setups}
use Rattle.carton_setup.specs.Telling.{done, denied, spent}
use Rattle.carton_setup.specs.declared.setup.Setup.{Setup}
use Rattle.carton_setup.specs.declared.told.Told.{Told}
use Rattle.carton_plan_commands.specs.declared.plan.Planned.{Planned}
use Rattle.carton_plan_commands.specs.declared.plan.Planned.TheVariants.{Found, StartBlocked, NoPath}
use Rattle.carton_plan_commands.specs.declared.plan.Planned.TheVariants.{OutOfTurns}

-- the line where there is no plan: two panels aren't parted well at the start, no path is clear, or the turns
-- don't go further
abbrev pub start_line : ℕ → ℕ → List ℕ
start_line a b = codes "start blocked" ++ (spaced a ++ line (spaced b))

abbrev pub no_plan_line : List ℕ
no_plan_line = line (codes "no plan")

abbrev pub turns_line : ℕ → List ℕ
turns_line moves = line (codes "out of turns" ++ spaced moves)

-- what is told of what came of planning
abbrev pub told_plan : Planned → Told
told_plan (Found plan) = done (spelling plan)
told_plan (StartBlocked a b) = denied (start_line a.0 b.0)
told_plan NoPath = denied no_plan_line
told_plan (OutOfTurns moves) = spent (turns_line moves)

-- what a plan is that is told: it keeps the rules of its text and is sound, all panels that share no crease
-- stay parted on it, its moves are grid steps, no path that is clear by the slack has fewer of them, where
-- nothing is to be moved it has one state, and it has at most as many moves as the job has turns
pub record IsBest (s : Setup) (plan : Plan) : Type 0 where
  pub rules : IsPlan plan
  pub sound : IsSound s.carton s.task plan
  pub clear : KeepsApart s.carton plan.states (pos 0)
  pub path : IsClearPath s.task s.carton plan.states
  pub shortest : IsShortest s.task s.carton plan.states
  pub still : s.task.start ≡ s.task.target → length plan.states ≡ 1
  pub turns : moves_of plan.states ≤ s.task.turns

-- no path that is clear by the slack has fewer moves than so many
abbrev pub HaveAllMoves : Setup → ℕ → Type 0
HaveAllMoves s moves = (path : List State) → IsSlackPath s.task s.carton path → moves ≤ moves_of path

-- what came of planning for a carton and a task, with its cause
abbrev pub IsPlanned : Setup → Planned → Type 0
IsPlanned s (Found plan) = IsBest s plan
IsPlanned s (StartBlocked a b) = AreBlockedAt s.task s.carton s.task.start a.0 b.0
IsPlanned s NoPath = AreApart s.carton (pos 0) s.task.start
    × ((path : List State) → ¬ (IsSlackPath s.task s.carton path))
IsPlanned s (OutOfTurns moves) = HaveAllMoves s moves × IsTurnsCause s.task s.carton moves

-- a plan that was found keeps the rules of its text
abbrev pub IsWritable : Planned → Type 0
IsWritable (Found plan) = IsPlan plan
IsWritable (StartBlocked a b) = ⊤
IsWritable NoPath = ⊤
IsWritable (OutOfTurns moves) = ⊤

-- what may come of planning for the bytes of the files
abbrev pub plannings : List (List ℕ) → Outcomes Planned
plannings files = do
  s ← setups files
  values (IsPlanned s)

-- what `plan` may tell
abbrev pub tells_plan : List (List ℕ) → Outcomes Told
tells_plan files = do
  s ← setups files
  answer ← values (IsPlanned s)
  gives (told_plan answer)
