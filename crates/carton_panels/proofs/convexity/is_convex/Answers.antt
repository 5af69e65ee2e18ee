use Rattle.std.proofs.Common.{◌<◌, ◌≤◌, length, arith, pos}
use Rattle.std.specs.Prelude.{All, Any}
use Rattle.carton_panels.specs.Panels.{Side, sides_of, IsLeft, IsStrictlyLeft}
use Rattle.carton_panels.proofs.Steps.{length-around}
use Rattle.carton_base.proofs.Loops.{yes, no, at_yes, at_no, below_more_all, all_end}
use Rattle.carton_panels.proofs.convexity.is_convex.Goals as goal

pub returns-then-not-has_all_left : goal.returns-then-not-has_all_left
returns-then-not-has_all_left c =
    let here : c.loop-k.k < length (sides_of c.args.face.places.now) =
    omega (arith, length-around c.args.face.places.now) in
    no (λ h. at_no c.if-not-has_all_left.true c.has_all_left.ensures (λ d. h c.loop-k.k d here))

pub loop-k-preserved : goal.loop-k-preserved
loop-k-preserved c =
    below_more_all (λ (s : Side). All (λ p. IsLeft s p.x p.y (pos 1)) c.args.face.places.now
    × Any (λ p. IsStrictlyLeft s p.x p.y (pos 1)) c.args.face.places.now)
    (sides_of c.args.face.places.now) c.loop-k.k
    (at_yes c.if-not-has_all_left.false c.has_all_left.ensures) c.loop-k.invariant

pub returns : goal.returns
returns c =
    let end' : length (sides_of c.args.face.places.now) ≤ c.loop-k.k =
    omega (arith, length-around c.args.face.places.now) in
    yes (all_end (λ (s : Side). All (λ p. IsLeft s p.x p.y (pos 1)) c.args.face.places.now
    × Any (λ p. IsStrictlyLeft s p.x p.y (pos 1)) c.args.face.places.now)
    (sides_of c.args.face.places.now) c.loop-k.k end' c.loop-k.invariant)
