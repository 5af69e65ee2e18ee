use Rattle.std.proofs.Common.{ℕ, arith, length-append}
use Rattle.std.proofs.lemmas.Result.{err_from_is_err_and}
use Rattle.carton_base.specs.Steps.{entries_from}
use Rattle.carton_base.proofs.Entries.{goes_on, ends, is_done}
use Rattle.carton_text.specs.Tasks.{team_of}
use Rattle.carton_lines.proofs.Items.{next_item, none_left}
use Rattle.carton_text.proofs.teams.told_teams.Goals as goal

pub returns-in_err-team-clause-value : goal.returns-in_err-team-clause-value
returns-in_err-team-clause-value c =
    let rule = λ (i : ℕ). team_of c.args.courses.now in
    let next = next_item c.args.lines.now c.loop-line.line-index c.line-item.result c.loop-line-test.true
    c.line-item.is in
    let p = err_from_is_err_and c.from_residual.result c.from_residual.ensures.1 in
    rw (p.1, p.2) (λ n. ends rule c.in_err-team.field-0.0 c.loop-line.found c.loop-line.line-index _
    c.line-item.result _ (entries_from rule 0 c.args.lines.now) next (c.in_err-team.ensures n)
    c.loop-line.invariant.so_far)

pub loop-line-preserved : goal.loop-line-preserved
loop-line-preserved c =
    let rule = λ (i : ℕ). team_of c.args.courses.now in
    let next = next_item c.args.lines.now c.loop-line.line-index c.line-item.result c.loop-line-test.true
    c.line-item.is in
    rw c.in_ok-push.ensures.ok (record {
      so_far = goes_on rule c.loop-line.found c.loop-line.line-index _ c.line-item.result _ _
          (entries_from rule 0 c.args.lines.now) next c.in_ok-team.ensures c.loop-line.invariant.so_far;
      count = rw (length-append, c.loop-line.invariant.count) (omega arith);
    })

pub returns-clause-value : goal.returns-clause-value
returns-clause-value c =
    let rule = λ (i : ℕ). team_of c.args.courses.now in
    is_done rule c.loop-line.found c.loop-line.line-index _ (entries_from rule 0 c.args.lines.now)
    (none_left c.args.lines.now c.loop-line.line-index c.loop-line-test.false)
    c.loop-line.invariant.so_far
