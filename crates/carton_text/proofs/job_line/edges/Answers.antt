use Rattle.std.proofs.Common.{sym}
use Rattle.std.proofs.lemmas.Result.{err_from_is_err_and}
use Rattle.carton_base.specs.Steps.{entries_from}
use Rattle.carton_text.specs.JobLines.{edge_in}
use Rattle.carton_base.proofs.Entries.{goes_on, ends, is_done, next_entry, no_entry}
use Rattle.carton_text.proofs.job_line.edges.Goals as goal

pub returns-in_err-edge : goal.returns-in_err-edge
returns-in_err-edge c =
    let x = c.number-item.result in
    let e = next_entry (λ z. z) c.args.numbers.now c.loop-number.number-index x c.loop-number-test.true
    c.number-item.is in
    let p = err_from_is_err_and c.from_residual.result c.from_residual.ensures.1 in
    rw (p.1, p.2) (λ n. ends (λ i. edge_in) c.in_err-edge.field-0.0 c.loop-number.found.items
    c.loop-number.number-index _ x _ (entries_from (λ i. edge_in) 0 c.args.numbers.now) e
    (sym c.in_err-edge.ensures) c.loop-number.invariant)

pub loop-number-preserved : goal.loop-number-preserved
loop-number-preserved c =
    let x = c.number-item.result in
    let e = next_entry (λ z. z) c.args.numbers.now c.loop-number.number-index x c.loop-number-test.true
    c.number-item.is in
    rw c.in_ok-push.ensures.items (goes_on (λ i. edge_in) c.loop-number.found.items c.loop-number.number-index
    _ x _ c.in_ok-edge.field-0 (entries_from (λ i. edge_in) 0 c.args.numbers.now) e
    (sym c.in_ok-edge.ensures) c.loop-number.invariant)

pub returns : goal.returns
returns c = is_done (λ i. edge_in) c.loop-number.found.items c.loop-number.number-index _
    (entries_from (λ i. edge_in) 0 c.args.numbers.now)
    (no_entry (λ z. z) c.args.numbers.now c.loop-number.number-index c.loop-number-test.false)
    c.loop-number.invariant
