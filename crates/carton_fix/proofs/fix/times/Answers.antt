use Rattle.std.proofs.Common.{rules, arith, SFits, ◌*ℤ◌}
use Rattle.std.specs.Int.{w128}
use Rattle.std.proofs.lemmas.Int.{ints, clamps, to_z-of_z}
use Rattle.carton_enclose.proofs.Ends.{ends_fit}
use Rattle.carton_fix.proofs.Corners.{times_fit}
use Rattle.carton_fix.proofs.fix.times.Goals as goal

pub overflow_mul-low : goal.overflow_mul-low
overflow_mul-low c =
    let x : SFits w128 c.args.x = c.ranges.x in
    let b : SFits w128 c.args.b.lo = (ends_fit c.args.b.lo c.args.b.hi c.args.b.bounded).0 in
    simp to_z-of_z (times_fit c.args.x c.args.b.lo c.args.b.hi c.requires).0

pub overflow_mul-high : goal.overflow_mul-high
overflow_mul-high c =
    let x : SFits w128 c.args.x = c.ranges.x in
    let b : SFits w128 c.args.b.hi = (ends_fit c.args.b.lo c.args.b.hi c.args.b.bounded).1 in
    simp to_z-of_z (times_fit c.args.x c.args.b.lo c.args.b.hi c.requires).1

pub invariant_of-result : goal.invariant_of-result
invariant_of-result c = record { ordered = omega (arith, ints, clamps) }

pub returns : goal.returns
returns c =
    let b = ends_fit c.args.b.lo c.args.b.hi c.args.b.bounded in
    let p = times_fit c.args.x c.args.b.lo c.args.b.hi c.requires in
    let x : SFits w128 c.args.x = c.ranges.x in
    let lo : SFits w128 c.args.b.lo = b.0 in
    let hi : SFits w128 c.args.b.hi = b.1 in
    let low : SFits w128 (c.args.x *ℤ c.args.b.lo) = p.0 in
    let high : SFits w128 (c.args.x *ℤ c.args.b.hi) = p.1 in
    let least : SFits w128 c.min.result = search rules in
    let greatest : SFits w128 c.max.result = search rules in
    simp to_z-of_z (record {
      least = simp to_z-of_z at c.min.ensures.value;
      greatest = simp to_z-of_z at c.max.ensures.value;
    })
