use Rattle.std.proofs.Common.{List, ℤ}
use Rattle.carton_base.proofs.Loops.{NoneBelow}
use Rattle.carton_base.proofs.AllDirections.{directions, part}
use Rattle.carton_panels.proofs.Parted.{CornersParted}
use Rattle.carton_panels.proofs.parting.flat_parted.Given as goal

abbrev pub invariant-loop-direction : goal.invariant-loop-direction
invariant-loop-direction l = NoneBelow (λ (d : List ℤ). CornersParted (part d 0) (part d 1) l.first l.second)
    directions l.direction-index
