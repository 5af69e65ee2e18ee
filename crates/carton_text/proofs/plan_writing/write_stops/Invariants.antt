use Rattle.std.proofs.Common.{◌≡◌, ◌++◌, flat_map, string_bytes}
use Rattle.carton_lines.specs.StrictLines.{spaced}
use Rattle.carton_text.specs.Plans.{joint_stops}
use Rattle.carton_text.proofs.plan_writing.write_stops.Given as goal

abbrev pub invariant-loop-place : goal.invariant-loop-place
invariant-loop-place l =
    string_bytes l.text ≡ string_bytes l.initial.text ++ flat_map spaced (joint_stops l.place l.state)
