use Rattle.std.proofs.Common.{◌≡◌, ◌++◌, take, map, pos, flat_map, string_bytes}
use Rattle.carton_lines.specs.StrictLines.{spaced}
use Rattle.carton_text.proofs.plan_writing.write_edges.Given as goal

abbrev pub invariant-loop-crease : goal.invariant-loop-crease
invariant-loop-crease l =
    string_bytes l.text ≡ string_bytes l.initial.text
    ++ flat_map spaced (map (λ e. pos e.0) (take l.crease-index l.creases))
