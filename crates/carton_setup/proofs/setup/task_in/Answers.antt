use Rattle.std.proofs.Common.{◌≡◌, sym, subst, IfOk}
use Rattle.carton_setup.specs.Outcomes.{IsOutcome}
use Rattle.carton_setup.specs.Rules.{fit_rule}
use Rattle.carton_setup.specs.Setups.{tasks}
use Rattle.carton_setup.proofs.Creases.{fitted_creases}
use Rattle.carton_setup.proofs.Outcomes.{reads_so, kept}
use Rattle.carton_text.specs.CartonTasks.{task_for}
use Rattle.carton_text.specs.TaskRules.{IsTask}
use Rattle.carton_text.specs.Tasks.{outline}
use Rattle.carton_text.specs.declared.job_error.JobError.TheVariants.{Memory}
use Rattle.carton_text.specs.declared.task.Task.{Task}
use Rattle.carton_words.specs.declared.kinds.FileKind.TheVariants.{Job}
use Rattle.carton_setup.proofs.setup.task_in.Goals as goal

pub returns-clause-fits : goal.returns-clause-fits
returns-clause-fits c =
    let t = c.args.carton.now in
    let d = c.args.raw.now in
    let j = c.args.job.now in
    subst (IsOutcome (tasks t d j)) (sym c.accept.ensures)
    (reads_so Job fit_rule Memory outline (task_for t d j) c.job_for.result c.job_for.ensures.fits)

pub returns-clause-keeps_rules : goal.returns-clause-keeps_rules
returns-clause-keeps_rules c =
    subst (λ r. IfOk r IsTask) (sym c.accept.ensures)
    (kept Job fit_rule IsTask c.job_for.result c.job_for.ensures.keeps_rules)

pub returns-clause-creases : goal.returns-clause-creases
returns-clause-creases c =
    let t = c.args.carton.now in
    let same = fitted_creases t c.args.raw.now c.args.job.now c.job_for.result c.job_for.ensures.fits in
    subst (λ r. IfOk r (λ (task : Task). task.creases ≡ t.creases)) (sym c.accept.ensures)
    (kept Job fit_rule (λ (task : Task). task.creases ≡ t.creases) c.job_for.result same)
