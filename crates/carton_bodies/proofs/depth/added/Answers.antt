use Rattle.std.proofs.Common.{SFits, ◌+ℤ◌, arith}
use Rattle.std.specs.Int.{w128}
use Rattle.std.proofs.lemmas.Int.{ints, to_z-of_z}
use Rattle.carton_bodies.proofs.depth.added.Goals as goal

pub invariant_of-result : goal.invariant_of-result
invariant_of-result c =
    let a : SFits w128 c.args.a.lo = omega (arith, ints, c.requires.first) in
    let b : SFits w128 c.args.a.hi = omega (arith, ints, c.requires.first) in
    let d : SFits w128 c.args.b.lo = omega (arith, ints, c.requires.second) in
    let e : SFits w128 c.args.b.hi = omega (arith, ints, c.requires.second) in
    let lo : SFits w128 (c.args.a.lo +ℤ c.args.b.lo) =
    omega (arith, ints, c.requires.first, c.requires.second) in
    let hi : SFits w128 (c.args.a.hi +ℤ c.args.b.hi) =
    omega (arith, ints, c.requires.first, c.requires.second) in
    simp to_z-of_z (omega (arith, ints, c.args.a.ordered, c.args.b.ordered))
