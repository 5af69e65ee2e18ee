use Rattle.carton_tree.specs.Steps.{AreCreasesBelow, AreHinges}
use Rattle.carton_tree.proofs.hinges.all_joints.Given as goal

abbrev pub invariant-loop-k : goal.invariant-loop-k
invariant-loop-k l = record {
  creases : AreCreasesBelow l.raw l.k l.found.creases.items;
  hinges : AreHinges l.raw l.k l.found.creases.items l.found.all.items;
}
