use Rattle.std.proofs.Common.{◌≡◌, drop}
use Rattle.carton_tree.specs.Trees.{first_shared}
use Rattle.carton_tree.proofs.paths.first_shared.Given as goal

abbrev pub invariant-loop-p : goal.invariant-loop-p
invariant-loop-p l = first_shared (drop l.p-index l.list) l.other ≡ first_shared l.list l.other
