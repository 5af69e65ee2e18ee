use Rattle.std.proofs.Common.{map, arith, length-append}
use Rattle.std.proofs.lemmas.Result.{err_from_is_err_and}
use Rattle.serde_json.specs.View.{view}
use Rattle.carton_base.specs.Steps.{entries_from}
use Rattle.carton_base.proofs.Entries.{goes_on, ends, is_done, next_entry, no_entry}
use Rattle.carton_fold.proofs.entries.entries.Goals as goal

pub returns-in_err-read-clause-value : goal.returns-in_err-read-clause-value
returns-in_err-read-clause-value g c = λ entry reads.
    let e = next_entry view c.args.list.now c.loop-i.i c.index-list-i.result c.loop-i-test.true
    c.index-list-i.is in
    let p = err_from_is_err_and c.from_residual.result c.from_residual.ensures.1 in
    rw (p.1, p.2) (λ n. ends entry c.in_err-read.field-0.0 c.loop-i.found.items c.loop-i.i _
    (view c.index-list-i.result) _ (entries_from entry 0 (map view c.args.list.now)) e
    (reads c.loop-i.i _ _ c.loop-i-test.true c.in_err-read.ensures n)
    (c.loop-i.invariant.so_far entry reads))

pub loop-i-preserved : goal.loop-i-preserved
loop-i-preserved g c =
    let e = next_entry view c.args.list.now c.loop-i.i c.index-list-i.result c.loop-i-test.true
    c.index-list-i.is in
    rw c.in_ok-push.ensures.items (record {
      so_far = λ entry reads. goes_on entry c.loop-i.found.items c.loop-i.i _ (view c.index-list-i.result) _
          c.in_ok-read.field-0 (entries_from entry 0 (map view c.args.list.now)) e
          (reads c.loop-i.i _ _ c.loop-i-test.true c.in_ok-read.ensures)
          (c.loop-i.invariant.so_far entry reads);
      count = rw (length-append, c.loop-i.invariant.count) (omega arith);
      within = omega (arith, c.loop-i-test.true);
    })

pub returns-clause-value : goal.returns-clause-value
returns-clause-value g c =
    λ entry reads. is_done entry c.loop-i.found.items c.loop-i.i _
    (entries_from entry 0 (map view c.args.list.now))
    (no_entry view c.args.list.now c.loop-i.i c.loop-i-test.false) (c.loop-i.invariant.so_far entry reads)
