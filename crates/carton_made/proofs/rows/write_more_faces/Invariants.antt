use Rattle.std.proofs.Common.{◌≡◌, ◌-◌, ◌++◌, map, string_bytes}
use Rattle.std.specs.List.{range_with_len}
use Rattle.std.specs.Fmt.{decimal}
use Rattle.carton_made.specs.Drawings.{row_face}
use Rattle.carton_made.specs.Made.{listed, following}
use Rattle.carton_made.proofs.rows.write_more_faces.Given as goal

abbrev pub invariant-loop-panel : goal.invariant-loop-panel
invariant-loop-panel l =
    string_bytes l.text
    ≡ string_bytes l.initial.text
    ++ following (listed decimal) (map (row_face l.panels) (range_with_len 1 (l.panel-counter - 1)))
