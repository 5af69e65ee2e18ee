use Rattle.std.proofs.Common.{pos}
use Rattle.std.specs.Prelude.{All, Any}
use Rattle.carton_panels.specs.Panels.{Side, sides_of, IsLeft, IsStrictlyLeft}
use Rattle.carton_base.proofs.Loops.{AllBelow}
use Rattle.carton_panels.proofs.convexity.is_convex.Given as goal

abbrev pub invariant-loop-k : goal.invariant-loop-k
invariant-loop-k l =
    AllBelow (λ (s : Side). All (λ p. IsLeft s p.x p.y (pos 1)) l.face.places.now
    × Any (λ p. IsStrictlyLeft s p.x p.y (pos 1)) l.face.places.now) (sides_of l.face.places.now) l.k
