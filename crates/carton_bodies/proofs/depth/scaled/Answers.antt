use Rattle.std.proofs.Common.{SFits, arith, rules}
use Rattle.std.specs.Int.{w8, w128}
use Rattle.std.proofs.lemmas.Int.{ints, to_z-of_z}
use Rattle.carton_bodies.proofs.Numbers.{scaled}
use Rattle.carton_bodies.proofs.depth.scaled.Goals as goal

pub returns-clause-scaled : goal.returns-clause-scaled
returns-clause-scaled c =
    let k : SFits w8 c.args.c = c.ranges.c in
    let all = c.args.all in
    let x : SFits w128 all.lo = omega (arith, ints, c.requires) in
    let y : SFits w128 all.hi = omega (arith, ints, c.requires) in
    let first : SFits w128 c.times.result = search rules in
    let second : SFits w128 c.times-2.result = search rules in
    let e = simp to_z-of_z at c.times.ensures.value in
    let f = simp to_z-of_z at c.times-2.ensures.value in
    let low = rw (e, f) at (simp to_z-of_z at c.ends_of.ensures.low) in
    let high = rw (e, f) at (simp to_z-of_z at c.ends_of.ensures.high) in
    scaled c.args.c all.lo all.hi _ _ (omega (arith, ints, k)) (omega (arith, ints, k)) all.ordered low high
