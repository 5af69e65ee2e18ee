-- What `make` tells: what comes of planning for dielines and jobs that are made from numbers.
use Rattle.std.specs.Prelude.{◌≡◌, ⊤, ℕ, ◌+◌, List, [], ◌∷◌, ◌++◌, length, codes, Result, Ok, Err}
use Rattle.carton_made.specs.Kinds.{kind_of, size_of, name_of}
use Rattle.carton_made.specs.Made.{dieline_text, job_text}
use Rattle.carton_search.specs.Paths.{moves_of}
use Rattle.carton_setup.specs.Commands.{takes_nothing}
use Rattle.carton_setup.specs.Outcomes.{Outcomes, ◌>>=◌, gives, values}
use Rattle.carton_setup.specs.Printed.{line, spaced}
use Rattle.carton_setup.specs.Refusals.{refusal_text}
use Rattle.carton_setup.specs.Telling.{done}
use Rattle.carton_setup.specs.declared.refusal.BadFile.{BadFile}
use Rattle.carton_setup.specs.declared.told.Told.{Told}
use Rattle.carton_plan_commands.specs.Plan.{start_line, no_plan_line, turns_line, plannings}
use Rattle.carton_plan_commands.specs.declared.plan.Planned.{Planned}
use Rattle.carton_plan_commands.specs.declared.plan.Planned.TheVariants.{Found, StartBlocked, NoPath}
use Rattle.carton_plan_commands.specs.declared.plan.Planned.TheVariants.{OutOfTurns}

-- what comes of planning, or a file that is refused
abbrev pub Outcome : Type 0
Outcome = Result Planned BadFile

-- the number of moves of a plan, and else the line that `plan` tells
abbrev pub planned_line : Planned → List ℕ
planned_line (Found plan) = codes "moves" ++ line (spaced (moves_of plan.states))
planned_line (StartBlocked a b) = start_line a.0 b.0
planned_line NoPath = no_plan_line
planned_line (OutOfTurns moves) = turns_line moves

-- what is told of an outcome
abbrev pub told_line : Outcome → List ℕ
told_line (Ok answer) = planned_line answer
told_line (Err file) = refusal_text file

-- the line of number k
abbrev pub made_line : ℕ → Outcome → List ℕ
made_line k outcome =
    name_of (kind_of k)
    ++ (spaced k ++ (codes " size" ++ (spaced (size_of k) ++ (codes " " ++ told_line outcome))))

-- the moves of a plan; there are none where there is no plan
abbrev pub planned_moves : Planned → ℕ
planned_moves (Found plan) = moves_of plan.states
planned_moves (StartBlocked a b) = 0
planned_moves NoPath = 0
planned_moves (OutOfTurns moves) = 0

abbrev pub moves_in : Outcome → ℕ
moves_in (Ok answer) = planned_moves answer
moves_in (Err file) = 0

-- the lines of the numbers from k on
abbrev pub lines_from : ℕ → List Outcome → List ℕ
lines_from k [] = []
lines_from k (outcome ∷ others) = made_line k outcome ++ lines_from (k + 1) others

-- the moves of all plans
abbrev pub total_of : List Outcome → ℕ
total_of [] = 0
total_of (outcome ∷ others) = moves_in outcome + total_of others

-- the two texts that are made of number k
abbrev pub made_files : ℕ → List (List ℕ)
made_files k = dieline_text k ∷ job_text k ∷ []

-- these may come of planning for the made dielines and jobs of the numbers from k on
abbrev pub AreOutcomes : ℕ → List Outcome → Type 0
AreOutcomes k [] = ⊤
AreOutcomes k (outcome ∷ others) = plannings (made_files k) outcome × AreOutcomes (k + 1) others

-- so many outcomes, one for each number from 0 on
abbrev pub AreFirstOutcomes : ℕ → List Outcome → Type 0
AreFirstOutcomes count outcomes = (length outcomes ≡ count) × AreOutcomes 0 outcomes

-- these lines and this total are those of what may come of so many numbers
abbrev pub AreLinesOf : ℕ → List ℕ → ℕ → Type 0
AreLinesOf count lines total = (outcomes : List Outcome) × AreFirstOutcomes count outcomes
    × (lines ≡ lines_from 0 outcomes) × (total ≡ total_of outcomes)

-- the text of all: a line for each number, and the total
abbrev pub outcomes_text : List Outcome → List ℕ
outcomes_text outcomes = lines_from 0 outcomes ++ (codes "total" ++ line (spaced (total_of outcomes)))

-- the text of what may come of so many numbers
abbrev pub IsMadeText : ℕ → List ℕ → Type 0
IsMadeText count text = (outcomes : List Outcome) × AreFirstOutcomes count outcomes
    × (text ≡ outcomes_text outcomes)

-- what `make` may tell
abbrev pub tells_make : ℕ → List (List ℕ) → Outcomes Told
tells_make count files = do
  nothing ← takes_nothing files
  text ← values (IsMadeText count)
  gives (done text)
