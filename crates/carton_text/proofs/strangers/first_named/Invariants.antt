use Rattle.std.proofs.Common.{◌≡◌, drop, not}
use Rattle.std.specs.List.{find}
use Rattle.carton_text.specs.Tasks.{is_among}
use Rattle.carton_text.proofs.strangers.first_named.Given as goal

abbrev pub invariant-loop-edge : goal.invariant-loop-edge
invariant-loop-edge l = find (λ e. not (is_among e l.creases)) (drop l.edge-index l.edges)
    ≡ find (λ e. not (is_among e l.creases)) l.edges
