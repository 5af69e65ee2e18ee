-- What `run` promises of plans, over what the shelf tells of the files, what is written, and the status.
use Rattle.std.specs.Prelude.{◌≡◌, ◌⊎◌, ℕ, ◌≤◌, List, [], ◌∷◌, length, map, Option, Some, Ok}
use Rattle.carton_base.specs.declared.limits.TheConstants.{MOST_BYTES}
use Rattle.carton_base.specs.declared.motion.State.{State}
use Rattle.carton_check.specs.Sound.{IsSound}
use Rattle.carton_plan_commands.specs.Check.{AreSound}
use Rattle.carton_plan_commands.specs.Make.{IsMadeText}
use Rattle.carton_search.specs.Paths.{IsSlackPath, IsWithinTurns, moves_of}
use Rattle.carton_setup.specs.Setups.{setups}
use Rattle.carton_setup.specs.declared.setup.Setup.{Setup}
use Rattle.carton_text.specs.PlanRules.{IsPlan}
use Rattle.carton_text.specs.Plans.{spelling}
use Rattle.carton_text.specs.declared.plan.Plan.{Plan}
use Rattle.carton_words.specs.Commands.{Command, IsCommand}
use Rattle.carton_words.specs.Kinds.{Named}
use Rattle.carton_words.specs.Words.{a_file, a_count}
use Rattle.carton_words.specs.declared.kinds.FileKind.TheVariants.{Dieline, Job, Plan as PlanFile}
use Rattle.carton_words.specs.declared.table.Verb.{Verb}
use Rattle.carton_words.specs.declared.table.Verb.TheVariants.{Plan as PlanVerb, Check, Clearance, Make}
use Rattle.carton_tool.specs.declared.status.Status.{Status}
use Rattle.carton_tool.specs.declared.status.Status.TheVariants.{Done, NoMemory, ReadFault, WriteFault}

-- the command of a verb with the names of its files
abbrev pub asks : Verb → List Named → Command
asks verb files = record { verb = verb; given = map a_file files }

-- the names of a dieline's and of a job's file
abbrev pub dieline_and_job : List ℕ → List ℕ → List Named
dieline_and_job dieline job =
    record { kind = Dieline; name = dieline } ∷ record { kind = Job; name = job } ∷ []

-- and of a plan's
abbrev pub and_plan : List ℕ → List ℕ → List ℕ → List Named
and_plan dieline job plan =
    record { kind = Dieline; name = dieline } ∷ record { kind = Job; name = job }
    ∷ record { kind = PlanFile; name = plan } ∷ []

-- the plan goes from the start of the task to its target, and at the first state and at every moment of every
-- move no two shrunk panels of the carton that share no crease meet
abbrev pub IsSafe : Setup → Plan → Type 0
IsSafe s plan = IsSound s.carton s.task plan

-- no path on which all panels that share no crease stay parted by more than the slack has fewer moves
abbrev pub HasFewestMoves : Setup → Plan → Type 0
HasFewestMoves s plan =
    (path : List State) → IsSlackPath s.task s.carton path → moves_of plan.states ≤ moves_of path

-- the bytes are those of a carton and of a task on it, exactly the one spelling of a plan was written, and P
-- holds of them and the plan
abbrev pub IsToldPlan : List ℕ → List ℕ → (List ℕ → Type 0) → (Setup → Plan → Type 0) → Type 0
IsToldPlan d j wrote P = (s : Setup) × (plan : Plan) × setups (d ∷ j ∷ []) (Ok s) × IsPlan plan
    × wrote (spelling plan) × P s plan

-- if the words are `plan DIELINE JOB`, then of the bytes that are told of the two files a plan is written of
-- which P holds
abbrev pub TellsPlanWith : (List ℕ → Option (List ℕ)) → List (List ℕ) → (List ℕ → Type 0)
    → (Setup → Plan → Type 0) → Type 0
TellsPlanWith holds words wrote P = (dieline job d j : List ℕ)
    → IsCommand words (asks PlanVerb (dieline_and_job dieline job))
    → holds dieline ≡ Some d → holds job ≡ Some j → IsToldPlan d j wrote P

-- neither file has too many bytes, and no rule refuses one
pub record AreAccepted (d j : List ℕ) : Type 0 where
  pub short_dieline : length d ≤ MOST_BYTES
  pub short_job : length j ≤ MOST_BYTES
  pub setup : Setup
  pub sets_up : setups (d ∷ j ∷ []) (Ok setup)

-- some path of the task keeps all panels that share no crease parted by more than the slack, and its moves
-- are within the budget of turns
abbrev pub HasNearPath : Setup → Type 0
HasNearPath s = (path : List State) × IsSlackPath s.task s.carton path × IsWithinTurns s.task (moves_of path)

-- so it is for a carton and a task of the bytes
abbrev pub IsInReach : List ℕ → List ℕ → Type 0
IsInReach d j = (s : Setup) × setups (d ∷ j ∷ []) (Ok s) × HasNearPath s

-- a plan was told, but for want of memory and faults of the shelf and of the sink
abbrev pub IsToldOrFault : Status → Type 0
IsToldOrFault status = (status ≡ Done) ⊎ (status ≡ NoMemory) ⊎ (status ≡ ReadFault) ⊎ (status ≡ WriteFault)

-- if the words are `plan DIELINE JOB`, and the bytes that are told of the two files are accepted and have a
-- path in reach, then a plan is told
abbrev pub IsFoundInReach : (List ℕ → Option (List ℕ)) → List (List ℕ) → Status → Type 0
IsFoundInReach holds words status = (dieline job d j : List ℕ)
    → IsCommand words (asks PlanVerb (dieline_and_job dieline job))
    → holds dieline ≡ Some d → holds job ≡ Some j → AreAccepted d j → IsInReach d j → IsToldOrFault status

-- the words ask for a check of a plan, or for a report on it, and these are the names of its dieline, its job
-- and the plan
abbrev pub AskOfPlan : List (List ℕ) → List ℕ → List ℕ → List ℕ → Type 0
AskOfPlan words dieline job plan = IsCommand words (asks Check (and_plan dieline job plan))
    ⊎ IsCommand words (asks Clearance (and_plan dieline job plan))

-- if the words ask of a plan, the bytes that are told of the three files are those of a carton, of a task on
-- it, and of a plan that is sound for them
abbrev pub IsOfSound : (List ℕ → Option (List ℕ)) → List (List ℕ) → Type 0
IsOfSound holds words = (dieline job plan d j p : List ℕ) → AskOfPlan words dieline job plan
    → holds dieline ≡ Some d → holds job ≡ Some j → holds plan ≡ Some p → AreSound (d ∷ j ∷ p ∷ [])

-- if the words are `make N`, exactly the text of what may come of the numbers below N is written
abbrev pub TellsMade : List (List ℕ) → (List ℕ → Type 0) → Type 0
TellsMade words wrote = (count : ℕ) → IsCommand words (record { verb = Make; given = a_count count ∷ [] })
    → (text : List ℕ) × IsMadeText count text × wrote text
