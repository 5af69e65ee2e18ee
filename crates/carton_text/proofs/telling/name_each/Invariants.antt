use Rattle.std.proofs.Common.{◌≡◌, drop}
use Rattle.carton_text.specs.Jobs.{name_each}
use Rattle.carton_text.proofs.telling.name_each.Given as goal

abbrev pub invariant-loop-edge : goal.invariant-loop-edge
invariant-loop-edge l = name_each l.named (drop l.edge-index l.edges) ≡ name_each l.initial.named l.edges
