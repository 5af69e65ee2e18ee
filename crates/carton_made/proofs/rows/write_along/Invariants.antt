use Rattle.std.proofs.Common.{◌≡◌, ◌-◌, ◌++◌, map, string_bytes}
use Rattle.std.specs.List.{range_with_len}
use Rattle.std.specs.Fmt.{decimal}
use Rattle.carton_made.specs.Drawings.{along}
use Rattle.carton_made.specs.Made.{listed, following}
use Rattle.carton_made.proofs.rows.write_along.Given as goal

abbrev pub invariant-loop-vertex : goal.invariant-loop-vertex
invariant-loop-vertex l =
    string_bytes l.text
    ≡ string_bytes l.initial.text
    ++ following (listed decimal) (map along (range_with_len l.first (l.vertex-counter - l.first)))
