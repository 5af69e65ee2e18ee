use Rattle.std.proofs.Common.{◌≡◌, ◌+◌, drop}
use Rattle.carton_tree.specs.Trees.{steps_to}
use Rattle.carton_tree.proofs.paths.steps_to.Given as goal

abbrev pub invariant-loop-p : goal.invariant-loop-p
invariant-loop-p l =
    record {
      sum : l.steps + steps_to l.frame.0 (drop l.p-index l.list) ≡ steps_to l.frame.0 l.list;
      count : l.steps ≡ l.p-index;
    }
