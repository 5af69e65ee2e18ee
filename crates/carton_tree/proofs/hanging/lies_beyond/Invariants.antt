use Rattle.carton_base.proofs.Loops.{NoneBelow}
use Rattle.carton_tree.specs.Joints.{vertices_of}
use Rattle.carton_tree.proofs.Placing.{IsBeyond}
use Rattle.carton_tree.proofs.hanging.lies_beyond.Given as goal

abbrev pub invariant-loop-v : goal.invariant-loop-v
invariant-loop-v l = NoneBelow (IsBeyond l.raw l.upright l.at) (vertices_of l.raw l.fn.panel.0) l.v-index
