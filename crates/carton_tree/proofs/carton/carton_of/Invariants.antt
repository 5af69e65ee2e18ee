use Rattle.carton_tree.specs.Trees.{Tree}
use Rattle.carton_tree.specs.Cartons.{AreKept}
use Rattle.carton_tree.proofs.carton.carton_of.Given as goal

abbrev pub invariant-loop-p : goal.invariant-loop-p
invariant-loop-p l =
    let t : Tree = record {
      panels = l.panels.items;
      root = l.fn.root.0;
      joints = l.joints.items;
      creases = l.fn.creases.items;
    } in
    AreKept t l.p l.starts.items l.paths.items l.turns.items
