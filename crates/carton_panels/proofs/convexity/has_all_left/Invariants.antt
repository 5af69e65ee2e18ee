use Rattle.std.proofs.Common.{get_or, pos}
use Rattle.carton_base.specs.declared.dieline.Point.{Point}
use Rattle.carton_panels.specs.Panels.{Side, sides_of, IsLeft, IsStrictlyLeft}
use Rattle.carton_base.proofs.Loops.{AllBelow, AnyBelow}
use Rattle.carton_panels.proofs.convexity.has_all_left.Given as goal

abbrev pub invariant-loop-p : goal.invariant-loop-p
invariant-loop-p l =
    (d : Side)
    → AllBelow (λ (p : Point). IsLeft (get_or (sides_of l.face.places.now) l.k d) p.x p.y (pos 1))
    l.face.places.now l.p-index
    × AnyBelow (λ (p : Point). IsStrictlyLeft (get_or (sides_of l.face.places.now) l.k d) p.x p.y (pos 1))
    l.face.places.now l.p-index l.some
