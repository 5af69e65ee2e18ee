use Rattle.std.proofs.Common.{Err, refl}
use Rattle.carton_setup.specs.Outcomes.{gives}
use Rattle.carton_setup.specs.Setups.{dielines, jobs, cartons, tasks, setups}
use Rattle.carton_setup.specs.declared.setup.Setup.{Setup}
use Rattle.carton_text.specs.declared.task.Task.{Task}
use Rattle.carton_setup.proofs.OneSetup.{after_dieline, after_job, after_carton}
use Rattle.carton_setup.proofs.Outcomes.{stops, goes_on, passed_up, came}
use Rattle.carton_setup.proofs.setup.set_up.Goals as goal

pub returns-in_err-job-clause-sets_up : goal.returns-in_err-job-clause-sets_up
returns-in_err-job-clause-sets_up c =
    let files = c.args.files.now in
    let d = c.in_ok-raw.raw in
    let e = c.in_err-job.field-0.0 in
    passed_up (setups files) e _ c.from_residual-in_err-job.ensures.1
    (goes_on (dielines files) (after_dieline files) d (Err e) c.in_ok-raw.ensures.reads
    (stops (jobs files) (after_job d) e c.in_err-job.ensures.reads))

pub returns-in_err-carton-clause-sets_up : goal.returns-in_err-carton-clause-sets_up
returns-in_err-carton-clause-sets_up c =
    let d = c.in_ok-raw.raw in
    let j = c.in_ok-job.job in
    let e = c.in_err-carton.field-0.0 in
    let after_both = goes_on (jobs c.args.files.now) (after_job d) j (Err e) c.in_ok-job.ensures.reads
    (stops (cartons d j) (after_carton d j) e c.in_err-carton.ensures.hangs) in
    passed_up (setups c.args.files.now) e _ c.from_residual-in_err-carton.ensures.1
    (goes_on (dielines c.args.files.now) (after_dieline c.args.files.now) d (Err e) c.in_ok-raw.ensures.reads
    after_both)

pub returns-in_err-task-clause-sets_up : goal.returns-in_err-task-clause-sets_up
returns-in_err-task-clause-sets_up c =
    let files = c.args.files.now in
    let d = c.in_ok-raw.raw in
    let j = c.in_ok-job.job in
    let t = c.in_ok-carton.carton in
    let e = c.in_err-task.field-0.0 in
    let unfit = stops (tasks t d j) (λ (task : Task). gives {A = Setup} (record { carton = t; task = task }))
    e c.in_err-task.ensures.fits in
    let after_both = goes_on (jobs files) (after_job d) j (Err e) c.in_ok-job.ensures.reads
    (goes_on (cartons d j) (after_carton d j) t (Err e) c.in_ok-carton.ensures.hangs unfit) in
    passed_up (setups files) e _ c.from_residual-in_err-task.ensures.1
    (goes_on (dielines files) (after_dieline files) d (Err e) c.in_ok-raw.ensures.reads after_both)

pub returns-clause-sets_up : goal.returns-clause-sets_up
returns-clause-sets_up c =
    let files = c.args.files.now in
    let d = c.in_ok-raw.raw in
    let j = c.in_ok-job.job in
    let t = c.in_ok-carton.carton in
    let made : Setup = record { carton = t; task = c.in_ok-task.task } in
    let given = λ (task : Task). gives {A = Setup} (record { carton = t; task = task }) in
    goes_on (dielines files) (after_dieline files) d (came made) c.in_ok-raw.ensures.reads
    (goes_on (jobs files) (after_job d) j (came made) c.in_ok-job.ensures.reads (
    goes_on (cartons d j) (after_carton d j) t (came made) c.in_ok-carton.ensures.hangs
    (goes_on (tasks t d j) given c.in_ok-task.task (came made) c.in_ok-task.ensures.fits refl)))
