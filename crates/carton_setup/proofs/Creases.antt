-- What the tree of a dieline and the task on it keep.
use Rattle.std.proofs.Common.{◌≡◌, ℕ, ◌&&◌, is_none, Result, Ok, Err, IfOk, refl, sym, ap}
use Rattle.carton_base.proofs.Steps.{both, same_ok}
use Rattle.carton_base.specs.Steps.{Gives, refuse_if, entries_from}
use Rattle.carton_base.specs.declared.dieline.RawDieline.{RawDieline}
use Rattle.carton_model.specs.Dielines.{IsDieline}
use Rattle.carton_tree.specs.Answers.{IsTreeAnswer}
use Rattle.carton_tree.specs.Cartons.{IsCarton}
use Rattle.carton_tree.specs.Trees.{Tree}
use Rattle.carton_tree.specs.declared.error.TreeError.{TreeError}
use Rattle.carton_text.proofs.PlanCreases.{plan_creases}
use Rattle.carton_text.specs.CartonTasks.{locked_joints, task_for}
use Rattle.carton_text.specs.PlanRules.{AreCreases}
use Rattle.carton_text.specs.Tasks.{only_joints, course_of, teams_of, task_of, Outline, outline}
use Rattle.carton_text.specs.declared.job.Job.{Job}
use Rattle.carton_text.specs.declared.job_error.JobError.{JobError}
use Rattle.carton_text.specs.declared.job_error.JobError.TheVariants.{NoAngles, Memory}
use Rattle.carton_text.specs.declared.task.Task.{Task}

pub is_carton : (m : ℕ) (d : RawDieline) (root : ℕ) (r : Result Tree TreeError) → IsTreeAnswer m d root r
    → IfOk r IsCarton
is_carton m d root (Ok t) h = h.3.carton
is_carton m d root (Err e) h = tt

-- its free joints keep the rules of a plan's
pub has_plan_creases : (m : ℕ) (d : RawDieline) (root : ℕ) (r : Result Tree TreeError) → IsDieline d
    → IsTreeAnswer m d root r → IfOk r (λ t. AreCreases t.creases)
has_plan_creases m d root (Ok t) dieline h = plan_creases m d root t dieline h.3
has_plan_creases m d root (Err e) dieline h = tt

-- the joints of a task are those of the carton
same_creases : (t : Tree) (d : RawDieline) (job : Job) (o : Outline) → task_for t d job ≡ Ok o
    → o.creases ≡ t.creases
unfolding task_of
same_creases t d job o told =
    let known = both (only_joints t.creases (locked_joints t) job) _ o told in
    let asked = both (refuse_if (job.from_file && is_none d.angles) NoAngles) _ o known.2 in
    let courses = both (entries_from (λ i. course_of job d.angles) 0 t.creases) _ o asked.2 in
    let teams = both (teams_of job.teams courses.0) _ o courses.2 in
    let made = same_ok _ o _ refl teams.2 in
    sym (ap (λ (x : Outline). x.creases) made)

pub fitted_creases : (t : Tree) (d : RawDieline) (job : Job) (r : Result Task JobError)
    → Gives Memory outline r (task_for t d job) → IfOk r (λ task. task.creases ≡ t.creases)
fitted_creases t d job (Ok task) h = same_creases t d job (outline task) h
fitted_creases t d job (Err e) h = tt
