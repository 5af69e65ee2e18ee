use Rattle.std.proofs.Common.{sym, ◌*◌, SFits, rules}
use Rattle.std.specs.Int.{w8}
use Rattle.std.proofs.lemmas.Int.{to_z-of_z}
use Rattle.std.proofs.lemmas.Result.{err_from_is_err_and}
use Rattle.carton_base.specs.Steps.{entries_from}
use Rattle.carton_text.specs.Grids.{stops_of}
use Rattle.carton_lines.specs.Numbers.{at_most}
use Rattle.carton_base.proofs.Entries.{goes_on, ends, is_done, next_entry, no_entry}
use Rattle.carton_text.proofs.plan_lines.stops.Goals as goal

pub returns-in_err-stop : goal.returns-in_err-stop
returns-in_err-stop c =
    let x = c.number-item.result in
    let e = next_entry (λ z. z) c.args.numbers.now c.loop-number.number-index x c.loop-number-test.true
    c.number-item.is in
    let p = err_from_is_err_and c.from_residual.result c.from_residual.ensures.1 in
    rw (p.1, p.2) (λ n. ends (λ i. at_most (2 * stops_of c.args.grid)) c.in_err-stop.field-0.0
    c.loop-number.found.items c.loop-number.number-index _ x _
    (entries_from (λ i. at_most (2 * stops_of c.args.grid)) 0 c.args.numbers.now) e
    (sym c.in_err-stop.ensures) c.loop-number.invariant)

pub loop-number-preserved : goal.loop-number-preserved
loop-number-preserved c =
    let e = next_entry (λ z. z) c.args.numbers.now c.loop-number.number-index c.number-item.result
    c.loop-number-test.true c.number-item.is in
    let f : SFits w8 c.in_ok-stop.field-0 = search rules in
    let items = simp to_z-of_z at c.in_ok-push.ensures.items in
    rw items (goes_on (λ i. at_most (2 * stops_of c.args.grid)) c.loop-number.found.items
    c.loop-number.number-index _ c.number-item.result _ c.in_ok-stop.field-0
    (entries_from (λ i. at_most (2 * stops_of c.args.grid)) 0 c.args.numbers.now) e
    (sym c.in_ok-stop.ensures) c.loop-number.invariant)

pub returns : goal.returns
returns c = is_done (λ i. at_most (2 * stops_of c.args.grid)) c.loop-number.found.items
    c.loop-number.number-index _ (entries_from (λ i. at_most (2 * stops_of c.args.grid)) 0 c.args.numbers.now)
    (no_entry (λ z. z) c.args.numbers.now c.loop-number.number-index c.loop-number-test.false)
    c.loop-number.invariant
