use Rattle.carton_tree.specs.Joints.{IsSide}
use Rattle.carton_tree.specs.Steps.{IsBeside}
use Rattle.carton_tree.proofs.besides.found_beside.Given as goal

abbrev pub invariant-loop-f : goal.invariant-loop-f
invariant-loop-f l = IsBeside (IsSide l.raw l.edge.0) l.f l.found
