use Rattle.carton_base.specs.declared.dieline.Ends.{Ends}
use Rattle.carton_base.proofs.Loops.{NoneBelow}
use Rattle.carton_panels.specs.Creases.{HasEnds}
use Rattle.carton_tree.proofs.sides.edge_between.Given as goal

abbrev pub invariant-loop-k : goal.invariant-loop-k
invariant-loop-k l = NoneBelow (λ (e : Ends). HasEnds e l.p l.q) l.edges l.k
