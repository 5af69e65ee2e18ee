use Rattle.std.proofs.Common.{◌≡◌, length}
use Rattle.carton_tree.specs.Steps.{AreJoints}
use Rattle.carton_tree.proofs.hanging.joints_of.Given as goal

abbrev pub invariant-loop-p : goal.invariant-loop-p
invariant-loop-p l =
    record {
      made : AreJoints l.raw l.hinges.creases.items l.hinges.all.items l.spots l.joints.items;
      count : length l.joints.items ≡ l.p;
    }
