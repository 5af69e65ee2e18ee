use Rattle.std.proofs.Common.{ℕ, sym}
use Rattle.std.specs.List.{range_with_len}
use Rattle.std.proofs.lemmas.Result.{err_from_is_err_and}
use Rattle.carton_base.specs.Steps.{entries_from}
use Rattle.carton_base.proofs.Entries.{goes_on, ends, is_done}
use Rattle.carton_catalogue.specs.CatalogueLines.{body_of_row}
use Rattle.carton_catalogue.proofs.Rows.{next_place, no_place}
use Rattle.carton_catalogue.proofs.boxes.row_bodies.Goals as goal

pub returns-in_err-row_body : goal.returns-in_err-row_body
returns-in_err-row_body c =
    let entry = λ (i : ℕ). body_of_row c.args.numbers.now in
    let p = err_from_is_err_and c.from_residual.result c.from_residual.ensures.1 in
    rw (p.1, p.2) (λ n. ends entry c.in_err-row_body.field-0.0 c.loop-place.found.items c.loop-place.place _
    c.loop-place.place _ (entries_from entry 0 (range_with_len 0 c.args.count))
    (next_place c.loop-place.place c.args.count c.loop-place-test.true) (sym c.in_err-row_body.ensures)
    c.loop-place.invariant)

pub loop-place-preserved : goal.loop-place-preserved
loop-place-preserved c =
    let entry = λ (i : ℕ). body_of_row c.args.numbers.now in
    rw c.in_ok-push.ensures.items (goes_on entry c.loop-place.found.items c.loop-place.place _
    c.loop-place.place _ c.in_ok-row_body.field-0 (entries_from entry 0 (range_with_len 0 c.args.count))
    (next_place c.loop-place.place c.args.count c.loop-place-test.true) (sym c.in_ok-row_body.ensures)
    c.loop-place.invariant)

pub returns : goal.returns
returns c =
    let entry = λ (i : ℕ). body_of_row c.args.numbers.now in
    is_done entry c.loop-place.found.items c.loop-place.place _
    (entries_from entry 0 (range_with_len 0 c.args.count))
    (no_place c.loop-place.place c.args.count c.loop-place-test.false) c.loop-place.invariant
