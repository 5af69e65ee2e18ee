use Rattle.std.proofs.Common.{◌≡◌, ◌-◌, ◌++◌, map, string_bytes}
use Rattle.std.specs.List.{range_with_len}
use Rattle.std.specs.Fmt.{signed_decimal}
use Rattle.carton_made.specs.Drawings.{side_vertex}
use Rattle.carton_made.specs.Made.{listed, following}
use Rattle.carton_made.proofs.rows.write_side.Given as goal

abbrev pub invariant-loop-vertex : goal.invariant-loop-vertex
invariant-loop-vertex l =
    string_bytes l.text
    ≡ string_bytes l.initial.text
    ++ following (listed signed_decimal) (map (side_vertex l.size l.height)
    (range_with_len l.first (l.vertex - l.first)))
