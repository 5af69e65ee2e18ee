use Rattle.std.proofs.Common.{◌≡◌, ◌-◌, ◌++◌, map, string_bytes}
use Rattle.std.specs.List.{range_with_len}
use Rattle.carton_made.specs.Drawings.{row_letter}
use Rattle.carton_made.specs.Made.{following}
use Rattle.carton_made.proofs.rows.write_more_letters.Given as goal

abbrev pub invariant-loop-edge : goal.invariant-loop-edge
invariant-loop-edge l =
    string_bytes l.text
    ≡ string_bytes l.initial.text
    ++ following (λ letter. letter) (map (row_letter l.panels) (range_with_len 1 (l.edge - 1)))
