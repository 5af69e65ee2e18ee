-- The corners of a panel are places of its face, so they are near.
use Rattle.std.proofs.Common.{◌≡◌, ◌<◌, List, length, get_or, map, sym, ap, subst, arith, pos, unsigned_abs}
use Rattle.std.proofs.Common.{not}
use Rattle.std.specs.Prelude.{All, filter}
use Rattle.std.proofs.lemmas.List.Elements.{All-map, All-filter}
use Rattle.std.proofs.lemmas.List.{length-map, get_or-map}
use Rattle.carton_base.specs.declared.dieline.Point.{Point}
use Rattle.carton_base.specs.declared.numbers.Triple.{Triple}
use Rattle.carton_model.specs.Dielines.{IsNear}
use Rattle.carton_model.specs.Points.{IsNearPoint}
use Rattle.carton_panels.specs.Around.{Step}
use Rattle.carton_panels.specs.Panels.{Side, origin, bends_of, is_straight, corners_of}
use Rattle.carton_panels.specs.Shapes.{Shape, IsShape, place_of}
use Rattle.carton_panels.proofs.Steps.{length-bends_of, vertex_at}

corners_among : (ps : List Point) → All IsNear ps → All IsNear (corners_of ps)
corners_among ps h =
    let at_bends : All (λ (b : Step Side). IsNear b.to.from) (bends_of ps) = λ k b l.
    let lt : k < length ps = omega (arith, l, length-bends_of ps) in
    subst IsNear (sym (vertex_at ps k b origin lt)) (h k origin lt) in
    All-map IsNear (λ (b : Step Side). b.to.from) (filter (λ b. not (is_straight b)) (bends_of ps))
    (All-filter (λ b. not (is_straight b)) (λ (b : Step Side). IsNear b.to.from) (bends_of ps) at_bends)

-- a triple at a near place, with w = 1
near_at : (t : Triple) → t.w ≡ pos 1 → IsNear (place_of t) → IsNearPoint t
near_at t e h =
    let one : unsigned_abs t.w ≡ 1 = ap unsigned_abs e in
    record { x = omega (arith, one, h.x); y = omega (arith, one, h.y) }

pub near_corners : (s : Shape) → IsShape s → All IsNearPoint s.corners
near_corners s h = λ k t l.
    let placed : All IsNear (map place_of s.corners) = subst (All IsNear) (sym h.corners)
    (corners_among s.places h.near) in
    let here : k < length (map place_of s.corners) = omega (arith, l, length-map s.corners place_of) in
    near_at (get_or s.corners k t) (h.whole k t l)
    (subst IsNear (get_or-map place_of s.corners k t (place_of t) l) (placed k (place_of t) here))
