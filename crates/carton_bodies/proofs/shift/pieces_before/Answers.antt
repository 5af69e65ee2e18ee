use Rattle.std.proofs.Common.{◌≤◌, ◌^◌, SFits, arith, rules}
use Rattle.std.specs.Int.{w64, w128}
use Rattle.std.proofs.lemmas.Int.{ints, to_z-of_z}
use Rattle.std.proofs.Math.Pow.{pow_mono}
use Rattle.carton_bodies.proofs.shift.pieces_before.Goals as goal

pub product-gone-requires-clause-second : goal.product-gone-requires-clause-second
product-gone-requires-clause-second c =
    let p : 2 ^ c.args.piece.depth ≤ 2 ^ 36 = pow_mono c.args.piece.shallow in
    let f : SFits w128 c.from-2.result = search rules in
    let d : SFits w64 c.first-first.result.den = omega (arith, ints, c.first-first.ensures.den, p) in
    let e = simp to_z-of_z at c.from-2.ensures in
    simp to_z-of_z (omega (arith, ints, e, c.first-first.ensures.den, p))

pub sum-requires-clause-second : goal.sum-requires-clause-second
sum-requires-clause-second c =
    let p : 2 ^ c.args.piece.depth ≤ 2 ^ 36 = pow_mono c.args.piece.shallow in
    let w = c.args.piece.within in
    let f : SFits w128 c.from-3.result = search rules in
    let d : SFits w64 c.first-first.result.num = omega (arith, ints, c.first-first.ensures.num, p, w) in
    let e = simp to_z-of_z at c.from-3.ensures in
    simp to_z-of_z (omega (arith, ints, e, c.first-first.ensures.num, p, w))
