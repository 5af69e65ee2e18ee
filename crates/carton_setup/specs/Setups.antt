-- What the commands that read a dieline and a job begin with: the carton, and the task on it, or the first
-- file that is refused.
use Rattle.std.specs.Prelude.{◌≡◌, ℕ, List}
use Rattle.carton_base.specs.declared.dieline.RawDieline.{RawDieline}
use Rattle.carton_base.specs.declared.motion.State.{State}
use Rattle.carton_fold.specs.Dieline.{dieline_of}
use Rattle.carton_fold.specs.declared.error.FoldError.TheVariants.{Memory as NoMemoryForDieline}
use Rattle.carton_tree.specs.Answers.{IsTreeAnswer}
use Rattle.carton_tree.specs.Cartons.{IsCarton}
use Rattle.carton_tree.specs.Trees.{Tree}
use Rattle.carton_text.specs.CartonTasks.{task_for}
use Rattle.carton_text.specs.Jobs.{job_of}
use Rattle.carton_text.specs.PlainPlans.{plain}
use Rattle.carton_text.specs.PlanRules.{AreCreases}
use Rattle.carton_text.specs.Plans.{plan_of}
use Rattle.carton_text.specs.TaskRules.{IsTask}
use Rattle.carton_text.specs.Tasks.{outline}
use Rattle.carton_lines.specs.declared.fault.LineError.TheVariants.{Memory as NoMemoryForLine}
use Rattle.carton_text.specs.declared.job.Job.{Job}
use Rattle.carton_text.specs.declared.job_error.JobError.TheVariants.{Memory as NoMemoryForTask}
use Rattle.carton_text.specs.declared.plan.Plan.{Plan}
use Rattle.carton_text.specs.declared.task.Task.{Task}
use Rattle.carton_words.specs.declared.ends.End.{End}
use Rattle.carton_words.specs.declared.ends.End.TheVariants.{Start, Target}
use Rattle.carton_words.specs.declared.kinds.FileKind.TheVariants.{Dieline, Job as JobFile, Plan as PlanFile}
use Rattle.carton_setup.specs.Files.{file_at}
use Rattle.carton_setup.specs.Outcomes.{Outcomes, ◌>>=◌, gives, results, reads}
use Rattle.carton_setup.specs.Rules.{fold_rule, line_rule, tree_rule, fit_rule}
use Rattle.carton_setup.specs.declared.setup.Setup.{Setup}

-- the dieline of the first file
abbrev pub dielines : List (List ℕ) → Outcomes RawDieline
dielines files = reads Dieline fold_rule NoMemoryForDieline (λ d. d) (dieline_of (file_at 0 files))

-- the job of the second
abbrev pub jobs : List (List ℕ) → Outcomes Job
jobs files = reads JobFile line_rule NoMemoryForLine (λ j. j) (job_of (file_at 1 files))

-- the plan of the third
abbrev pub plans : List (List ℕ) → Outcomes Plan
plans files = reads PlanFile line_rule NoMemoryForLine plain (plan_of (file_at 2 files))

-- the carton of a dieline, with the margin and the root that the job names
abbrev pub cartons : RawDieline → Job → Outcomes Tree
cartons d j = results Dieline tree_rule (IsTreeAnswer j.margin d j.root)

-- the task of the job on the carton
abbrev pub tasks : Tree → RawDieline → Job → Outcomes Task
tasks t d j = reads JobFile fit_rule NoMemoryForTask outline (task_for t d j)

-- the carton and the task for the bytes of the files: faults are looked for in the text of the dieline, in
-- that of the job,
-- in the tree and in the job's fit
abbrev pub setups : List (List ℕ) → Outcomes Setup
setups files = do
  d ← dielines files
  j ← jobs files
  t ← cartons d j
  task ← tasks t d j
  gives (record { carton = t; task = task })

-- the carton and the task keep their rules, the joints of the task are those of the carton, and a plan may
-- have them
pub record IsRight (s : Setup) : Type 0 where
  pub carton : IsCarton s.carton
  pub task : IsTask s.task
  pub creases : s.task.creases ≡ s.carton.creases
  pub in_plans : AreCreases s.task.creases

-- the state of a task at an end
abbrev pub state_at : End → Task → State
state_at Start task = task.start
state_at Target task = task.target
