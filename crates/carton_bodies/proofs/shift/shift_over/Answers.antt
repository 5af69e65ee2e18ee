use Rattle.std.proofs.Common.{SFits, arith, rules}
use Rattle.std.specs.Int.{w128}
use Rattle.std.proofs.lemmas.Int.{ints, clamps, to_z-of_z}
use Rattle.carton_bodies.proofs.Shifts.{shift_of}
use Rattle.carton_bodies.proofs.shift.shift_over.Goals as goal

pub returns-clause-shift : goal.returns-clause-shift
returns-clause-shift c =
    let rate : SFits w128 c.args.rate = c.ranges.rate in
    let begin : SFits w128 c.product-begin.result = search rules in
    let end : SFits w128 c.sum.result = search rules in
    let more : SFits w128 c.product-more.result = search rules in
    let part : SFits w128 c.units_of.result = search rules in
    let gone : SFits w128 c.pieces_before.result = search rules in
    let m = simp to_z-of_z at c.product-more.ensures.value in
    let b = simp to_z-of_z at c.product-begin.ensures.value in
    let e = simp to_z-of_z at c.sum.ensures.value in
    let lo = simp to_z-of_z at c.ends_of.ensures.low in
    let hi = simp to_z-of_z at c.ends_of.ensures.high in
    let low = rw (e, b, m, c.units_of.ensures.value, c.pieces_before.ensures.value) at lo in
    let high = rw (e, b, m, c.units_of.ensures.value, c.pieces_before.ensures.value) at hi in
    shift_of c.args.rate c.args.step c.args.piece.index c.args.piece.depth _ c.args.piece.shallow
    c.requires.rate low high

pub returns-clause-size : goal.returns-clause-size
returns-clause-size c =
    let begin : SFits w128 c.product-begin.result = search rules in
    let end : SFits w128 c.sum.result = search rules in
    let lo = simp to_z-of_z at c.ends_of.ensures.low in
    let hi = simp to_z-of_z at c.ends_of.ensures.high in
    omega (arith, ints, clamps, lo, hi, c.product-begin.ensures.size, c.sum.ensures.size)
