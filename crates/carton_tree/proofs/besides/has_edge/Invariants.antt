use Rattle.std.proofs.Common.{◌≡◌}
use Rattle.carton_base.specs.declared.ids.EdgeId.{EdgeId}
use Rattle.carton_base.proofs.Loops.{AnyBelow}
use Rattle.carton_tree.proofs.besides.has_edge.Given as goal

abbrev pub invariant-loop-e : goal.invariant-loop-e
invariant-loop-e l = AnyBelow (λ (e : EdgeId). e.0 ≡ l.edge.0) l.edges l.e-index l.found
