use Rattle.std.proofs.Common.{take}
use Rattle.carton_tree.specs.Cartons.{AreStarts}
use Rattle.carton_tree.proofs.carton.starts_of.Given as goal

abbrev pub invariant-loop-point : goal.invariant-loop-point
invariant-loop-point l = AreStarts (take l.point-index l.points) l.starts.items
