use Rattle.std.proofs.Common.{◌≡◌, length}
use Rattle.carton_place.proofs.Lists.{FirstHave}
use Rattle.carton_reach.specs.Axes.{axis_at}
use Rattle.carton_bodies.specs.Extents.{IsExtent}
use Rattle.carton_bodies.proofs.extent.extents_over.Given as goal

abbrev pub invariant-loop-a : goal.invariant-loop-a
invariant-loop-a l =
    (length l.axes ≡ 13)
    × FirstHave (λ a e. IsExtent l.body l.fn.piece.index l.fn.piece.depth (axis_at a) e) l.axes l.a
