use Rattle.std.proofs.Common.{◌≡◌, ◌++◌, take, flat_map, string_bytes}
use Rattle.carton_plan_commands.specs.Clearance.{row_line}
use Rattle.carton_plan_commands.proofs.clearance.write_rows.Given as goal

abbrev pub invariant-loop-row : goal.invariant-loop-row
invariant-loop-row l =
    string_bytes l.text ≡ string_bytes l.initial.text ++ flat_map row_line (take l.row-index l.rows)
