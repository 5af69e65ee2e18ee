use Rattle.std.proofs.Common.{SFits, arith, rules}
use Rattle.std.specs.Int.{w32, w128}
use Rattle.std.proofs.lemmas.Int.{ints, to_z-of_z}
use Rattle.carton_bodies.proofs.Depths.{depth_at_face}
use Rattle.carton_bodies.proofs.depth.depth_at.Goals as goal

pub returns : goal.returns
returns c =
    let offset : SFits w128 c.product-offset.result = search rules in
    let f : SFits w32 c.args.face.now.offset = search rules in
    let g : SFits w128 c.from.result = search rules in
    let h : SFits w128 c.rate_along.result = search rules in
    let o = simp to_z-of_z at c.from.ensures in
    let t = rw o at (simp to_z-of_z at c.product-offset.ensures.value) in
    let low = simp to_z-of_z at c.exactly.ensures.low in
    let high = simp to_z-of_z at c.exactly.ensures.high in
    let moves = rw c.rate_along.ensures.value at (simp to_z-of_z at c.shift_over-shift.ensures.shift) in
    let all = c.added.ensures in
    let place = c.turned-place.ensures in
    depth_at_face c.args.face.now c.args.stroke c.args.step c.args.piece.index c.args.piece.depth
    c.args.spot.now c.shift_over-shift.result c.along.result _ moves c.along.ensures.holds
    c.along.ensures.close
    (omega (arith, ints, t, low, all.low, place.low, c.added-2.ensures.low))
    (omega (arith, ints, t, high, all.high, place.high, c.added-2.ensures.high))
