use Rattle.carton_base.specs.declared.numbers.Triple.{Triple}
use Rattle.carton_panels.specs.Shrinking.{IsSamePoint}
use Rattle.carton_base.proofs.Loops.{NoneBelow}
use Rattle.carton_panels.proofs.crossings.is_found.Given as goal

abbrev pub invariant-loop-k : goal.invariant-loop-k
invariant-loop-k l = NoneBelow (λ (k : Triple). IsSamePoint k l.t) l.found l.k-index
