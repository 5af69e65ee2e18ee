use Rattle.std.proofs.Common.{◌≡◌, ◌≤◌, ◌-◌, ◌++◌, flat_map, string_bytes}
use Rattle.std.specs.List.{range_with_len}
use Rattle.carton_made.specs.Made.{member}
use Rattle.carton_made.proofs.jobs.write_team.Given as goal

abbrev pub invariant-loop-edge : goal.invariant-loop-edge
invariant-loop-edge l = record {
  from : l.first ≤ l.edge-counter;
  wrote : string_bytes l.text ≡ string_bytes l.initial.text
      ++ flat_map member (range_with_len l.first (l.edge-counter - l.first));
}
