use Rattle.std.proofs.Common.{◌≡◌, ◌-◌}
use Rattle.std.specs.List.{range_with_len}
use Rattle.carton_base.specs.Steps.{entries_from}
use Rattle.carton_base.proofs.Entries.{with_front}
use Rattle.carton_catalogue.specs.CatalogueLines.{body_of_row}
use Rattle.carton_catalogue.proofs.boxes.row_bodies.Given as goal

abbrev pub invariant-loop-place : goal.invariant-loop-place
invariant-loop-place l =
    with_front l.found.items (entries_from (λ i. body_of_row l.numbers) l.place
    (range_with_len l.place (l.count - l.place)))
    ≡ entries_from (λ i. body_of_row l.numbers) 0 (range_with_len 0 l.count)
