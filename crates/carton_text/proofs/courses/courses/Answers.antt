use Rattle.std.proofs.Common.{ℕ, sym, arith, length-append}
use Rattle.std.proofs.lemmas.Result.{err_from_is_err_and}
use Rattle.carton_base.specs.Steps.{entries_from}
use Rattle.carton_base.proofs.Entries.{goes_on, ends, is_done}
use Rattle.carton_text.specs.Tasks.{course_of}
use Rattle.carton_lines.proofs.Items.{first_left, none_left}
use Rattle.carton_text.proofs.courses.courses.Goals as goal

pub returns-in_err-course-clause-value : goal.returns-in_err-course-clause-value
returns-in_err-course-clause-value c =
    let rule = λ (i : ℕ). course_of c.args.job.now c.args.raw.now.angles in
    let p = err_from_is_err_and c.from_residual.result c.from_residual.ensures.1 in
    rw (p.1, p.2) (λ n. ends rule c.in_err-course.field-0.0 c.loop-edge.found.items c.loop-edge.edge-index _ _
    _ (entries_from rule 0 c.args.creases.now)
    (first_left c.args.creases.now c.loop-edge.edge-index _ c.loop-edge-test.true)
    (sym c.in_err-course.ensures) c.loop-edge.invariant.so_far)

pub loop-edge-preserved : goal.loop-edge-preserved
loop-edge-preserved c =
    let rule = λ (i : ℕ). course_of c.args.job.now c.args.raw.now.angles in
    rw c.in_ok-push.ensures.items (record {
      so_far = goes_on rule c.loop-edge.found.items c.loop-edge.edge-index _ _ _ c.in_ok-course.field-0
          (entries_from rule 0 c.args.creases.now)
          (first_left c.args.creases.now c.loop-edge.edge-index _ c.loop-edge-test.true)
          (sym c.in_ok-course.ensures) c.loop-edge.invariant.so_far;
      count = rw (length-append, c.loop-edge.invariant.count) (omega arith);
    })

pub returns-clause-value : goal.returns-clause-value
returns-clause-value c =
    let rule = λ (i : ℕ). course_of c.args.job.now c.args.raw.now.angles in
    is_done rule c.loop-edge.found.items c.loop-edge.edge-index _ (entries_from rule 0 c.args.creases.now)
    (none_left c.args.creases.now c.loop-edge.edge-index c.loop-edge-test.false)
    c.loop-edge.invariant.so_far
