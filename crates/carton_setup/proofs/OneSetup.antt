-- The bytes of a dieline and of a job determine by which rule one of them is refused, and the task but for
-- its spelling.
use Rattle.std.proofs.Common.{◌≡◌, ◌≢◌, ℕ, List, sym, ◌∙◌, ap, subst, refl, Ok, Err}
use Rattle.carton_base.proofs.Steps.{same_ok}
use Rattle.carton_base.specs.declared.dieline.RawDieline.{RawDieline}
use Rattle.carton_fold.specs.Dieline.{dieline_of}
use Rattle.carton_fold.specs.declared.error.FoldError.TheVariants.{Memory as NoMemoryForDieline}
use Rattle.carton_tree.proofs.FreeJoints.{one_creases}
use Rattle.carton_tree.proofs.OneCarton.{one_carton}
use Rattle.carton_tree.proofs.OneRefusal.{one_refusal, no_tree}
use Rattle.carton_tree.specs.Answers.{IsTreeAnswer}
use Rattle.carton_tree.specs.Cartons.{IsCarton}
use Rattle.carton_tree.specs.Same.{AreSame}
use Rattle.carton_tree.specs.Trees.{Tree}
use Rattle.carton_tree.specs.declared.error.TreeError.{TreeError}
use Rattle.carton_tree.specs.declared.error.TreeError.TheVariants.{Memory}
use Rattle.carton_text.proofs.OneTask.{one_task}
use Rattle.carton_text.specs.CartonTasks.{task_for}
use Rattle.carton_text.specs.Jobs.{job_of}
use Rattle.carton_text.specs.PlainPlans.{plain}
use Rattle.carton_text.specs.Plans.{plan_of}
use Rattle.carton_text.specs.Tasks.{outline}
use Rattle.carton_lines.specs.declared.fault.LineError.TheVariants.{Memory as NoMemoryForLine}
use Rattle.carton_text.specs.declared.job.Job.{Job}
use Rattle.carton_text.specs.declared.job_error.JobError.TheVariants.{Memory as NoMemoryForTask}
use Rattle.carton_text.specs.declared.plan.Plan.{Plan}
use Rattle.carton_words.specs.declared.kinds.FileKind.TheVariants.{Dieline, Job as JobFile, Plan as PlanFile}
use Rattle.carton_setup.specs.Files.{file_at}
use Rattle.carton_setup.specs.Outcomes.{Outcomes, ◌>>=◌, gives, reads, Exclude}
use Rattle.carton_setup.specs.Proposals.{proposals}
use Rattle.carton_setup.specs.Rules.{fold_rule, line_rule, tree_rule, fit_rule}
use Rattle.carton_setup.specs.Setups.{dielines, jobs, plans, cartons, tasks, setups}
use Rattle.carton_setup.specs.declared.proposal.Proposal.{Proposal}
use Rattle.carton_setup.specs.declared.setup.Setup.{Setup}
use Rattle.carton_setup.proofs.Outcomes.{passed, same_value, excludes_after, excludes_results, excludes_reads}
use Rattle.carton_setup.proofs.Outcomes.{excludes_given, IsRuled, Forces, err_of}

-- two cartons of one dieline, with two tasks of one job on them
pub record AreAlike (s u : Setup) : Type 0 where
  pub creases : s.carton.creases ≡ u.carton.creases
  pub outline : outline s.task ≡ outline u.task
  pub same : AreSame s.carton u.carton
  pub back : AreSame u.carton s.carton
  pub whole : IsCarton s.carton
  pub whole_too : IsCarton u.carton

pub one_dieline : (files : List (List ℕ)) (d e : RawDieline) → dielines files (Ok d) → dielines files (Ok e)
    → d ≡ e
one_dieline files d e h k = same_ok d e (dieline_of (file_at 0 files)) h k

one_job : (files : List (List ℕ)) (j k : Job) → jobs files (Ok j) → jobs files (Ok k) → j ≡ k
one_job files j k h i = same_ok j k (job_of (file_at 1 files)) h i

-- a told error isn't that for want of memory
not_memory : (e : TreeError) → IsRuled {X = Tree} tree_rule (Err e) → e ≢ Memory
not_memory e ruled = λ is. let same = ap tree_rule is in let some = ruled.1 in cc

forces_tree : (m : ℕ) (d : RawDieline) (root : ℕ)
    → Forces tree_rule (IsTreeAnswer m d root) (IsTreeAnswer m d root)
forces_tree m d root e (Ok t) ruled is told other =
    absurd (no_tree m d root e t is (not_memory e ruled) other)
forces_tree m d root e (Err f) ruled is told other =
    ap (λ (x : TreeError). err_of Tree x)
    (one_refusal m d root f e other (not_memory f told) is (not_memory e ruled))

excludes_cartons : (d : RawDieline) (j : Job) → Exclude (cartons d j) (cartons d j)
excludes_cartons d j =
    let forces = forces_tree j.margin d j.root in
    excludes_results Dieline tree_rule (IsTreeAnswer j.margin d j.root) (IsTreeAnswer j.margin d j.root)
    forces forces

excludes_tasks : (d : RawDieline) (j : Job) (t u : Tree) → cartons d j (Ok t) → cartons d j (Ok u)
    → Exclude (tasks t d j) (tasks u d j)
excludes_tasks d j t u h k =
    subst (λ r. Exclude (tasks t d j) (reads JobFile fit_rule NoMemoryForTask outline r))
    (one_task j.margin d j.root t u j h.3 k.3)
    (excludes_reads JobFile fit_rule NoMemoryForTask outline (task_for t d j) refl)

-- what is left to be done after the dieline, after the job and after the tree
abbrev pub after_carton : RawDieline → Job → Tree → Outcomes Setup
after_carton d j t = tasks t d j >>= λ task. gives (record { carton = t; task = task })

abbrev pub after_job : RawDieline → Job → Outcomes Setup
after_job d j = cartons d j >>= after_carton d j

abbrev pub after_dieline : List (List ℕ) → RawDieline → Outcomes Setup
after_dieline files d = jobs files >>= after_job d

excludes_after_carton : (d : RawDieline) (j : Job) (t u : Tree) → cartons d j (Ok t) → cartons d j (Ok u)
    → Exclude (after_carton d j t) (after_carton d j u)
excludes_after_carton d j t u h k =
    excludes_after (tasks t d j) (tasks u d j) (λ task. gives (record { carton = t; task = task }))
    (λ task. gives (record { carton = u; task = task })) (excludes_tasks d j t u h k)
    (λ v w is is'. excludes_given (record { carton = t; task = v }) (record { carton = u; task = w }))

excludes_after_job : (d : RawDieline) (j : Job) → Exclude (after_job d j) (after_job d j)
excludes_after_job d j = excludes_after (cartons d j) (cartons d j) (after_carton d j) (after_carton d j)
    (excludes_cartons d j) (excludes_after_carton d j)

excludes_after_dieline : (files : List (List ℕ)) (d : RawDieline)
    → Exclude (after_dieline files d) (after_dieline files d)
excludes_after_dieline files d =
    excludes_after (jobs files) (jobs files) (after_job d) (after_job d)
    (excludes_reads JobFile line_rule NoMemoryForLine (λ j. j) (job_of (file_at 1 files)) refl)
    (λ j k h i. subst (λ x. Exclude (after_job d j) (after_job d x)) (one_job files j k h i)
    (excludes_after_job d j))

-- where a dieline or a job is refused, nothing else is allowed
pub excludes_setups : (files : List (List ℕ)) → Exclude (setups files) (setups files)
excludes_setups files =
    excludes_after (dielines files) (dielines files) (after_dieline files) (after_dieline files)
    (excludes_reads Dieline fold_rule NoMemoryForDieline (λ d. d) (dieline_of (file_at 0 files)) refl)
    (λ d e h k. subst (λ x. Exclude (after_dieline files d) (after_dieline files x))
    (one_dieline files d e h k) (excludes_after_dieline files d))

-- the dieline and the job that a carton and a task were made of
record IsSetUpFrom (files : List (List ℕ)) (s : Setup) : Type 0 where
  pub raw : RawDieline
  pub asked : Job
  pub raw_is : dielines files (Ok raw)
  pub asked_is : jobs files (Ok asked)
  pub carton : IsTreeAnswer asked.margin raw asked.root (Ok s.carton)
  pub task : task_for s.carton raw asked ≡ Ok (outline s.task)

set_up_from : (files : List (List ℕ)) (s : Setup) → setups files (Ok s) → IsSetUpFrom files s
set_up_from files s h =
    let d = passed (dielines files) (after_dieline files) s h in
    let j = passed (jobs files) (after_job d.0) s d.2 in
    let t = passed (cartons d.0 j.0) (after_carton d.0 j.0) s j.2 in
    let v = passed (tasks t.0 d.0 j.0) (λ task. gives (record { carton = t.0; task = task })) s t.2 in
    subst (IsSetUpFrom files) (sym (same_value s (record { carton = t.0; task = v.0 }) v.2))
    (record { raw = d.0; asked = j.0; raw_is = d.1; asked_is = j.1; carton = t.1; task = v.1 })

-- two setups of the same bytes are alike
pub are_alike : (files : List (List ℕ)) (s u : Setup) → setups files (Ok s) → setups files (Ok u)
    → AreAlike s u
are_alike files s u h k =
    let m = set_up_from files s h in
    let n = set_up_from files u k in
    let d = one_dieline files n.raw m.raw n.raw_is m.raw_is in
    let j = one_job files n.asked m.asked n.asked_is m.asked_is in
    let tree = subst (λ (x : RawDieline). IsTreeAnswer m.asked.margin x m.asked.root (Ok u.carton)) d
    (subst (λ (x : Job). IsTreeAnswer x.margin n.raw x.root (Ok u.carton)) j n.carton) in
    let task = subst (λ x. task_for u.carton x m.asked ≡ Ok (outline u.task)) d
    (subst (λ x. task_for u.carton n.raw x ≡ Ok (outline u.task)) j n.task) in
    record {
      creases = one_creases m.raw s.carton.creases u.carton.creases m.carton.3.creases tree.3.creases;
      outline = same_ok (outline s.task) (outline u.task) (task_for s.carton m.raw m.asked) m.task
          (one_task m.asked.margin m.raw m.asked.root s.carton u.carton m.asked m.carton.3 tree.3 ∙ task);
      same = one_carton m.asked.margin m.raw m.asked.root s.carton u.carton m.carton tree;
      back = one_carton m.asked.margin m.raw m.asked.root u.carton s.carton tree m.carton;
      whole = m.carton.3.carton;
      whole_too = tree.3.carton;
    }

-- nor after them, where the next steps on alike setups exclude each other's refusals
pub excludes_after_setup : {A : Type 0} (files : List (List ℕ)) (P Q : Setup → Outcomes A)
    → ((s u : Setup) → AreAlike s u → Exclude (P s) (Q u)) → Exclude (setups files >>= P) (setups files >>= Q)
excludes_after_setup files P Q next = excludes_after (setups files) (setups files) P Q (excludes_setups files)
    (λ s u h k. next s u (are_alike files s u h k))

excludes_plans : (files : List (List ℕ)) → Exclude (plans files) (plans files)
excludes_plans files = excludes_reads PlanFile line_rule NoMemoryForLine plain (plan_of (file_at 2 files))
    refl

-- what is left to be done after setting up
abbrev pub after_setup : List (List ℕ) → Setup → Outcomes Proposal
after_setup files s = plans files >>= λ p. gives (record { setup = s; plan = p })

-- where one of the first three files is refused, nothing else is allowed
pub excludes_proposals : (files : List (List ℕ)) → Exclude (proposals files) (proposals files)
excludes_proposals files =
    excludes_after_setup files (after_setup files) (after_setup files) (λ s u alike.
    excludes_after (plans files) (plans files) (λ p. gives (record { setup = s; plan = p }))
    (λ p. gives (record { setup = u; plan = p })) (excludes_plans files)
    (λ p q is is'. excludes_given (record { setup = s; plan = p }) (record { setup = u; plan = q })))

-- the carton, the task and the plan of a proposal are those of the bytes
pub proposed_from : (files : List (List ℕ)) (p : Proposal) → proposals files (Ok p)
    → setups files (Ok p.setup) × plans files (Ok p.plan)
proposed_from files p h =
    let s = passed (setups files) (after_setup files) p h in
    let q = passed (plans files) (λ q. gives (record { setup = s.0; plan = q })) p s.2 in
    let same = same_value p (record { setup = s.0; plan = q.0 }) q.2 in
    rw same (s.1, q.1)

-- nor after them, where the next steps on alike proposals exclude each other's refusals
pub excludes_after_proposal : {A : Type 0} (files : List (List ℕ)) (P Q : Proposal → Outcomes A)
    → ((p q : Proposal) → AreAlike p.setup q.setup → plain p.plan ≡ plain q.plan → Exclude (P p) (Q q))
    → Exclude (proposals files >>= P) (proposals files >>= Q)
excludes_after_proposal files P Q next =
    excludes_after (proposals files) (proposals files) P Q (excludes_proposals files) (λ p q h k.
    let m = proposed_from files p h in
    let n = proposed_from files q k in
    next p q (are_alike files p.setup q.setup m.0 n.0)
    (same_ok (plain p.plan) (plain q.plan) (plan_of (file_at 2 files)) m.1 n.1))
