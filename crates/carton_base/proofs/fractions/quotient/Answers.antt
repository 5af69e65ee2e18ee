use Rattle.std.proofs.Common.{rules, ◌≡◌, pos, ◌+ℤ◌, ◌-ℤ◌, ◌*ℤ◌, SFits, arith}
use Rattle.std.specs.Int.{w128}
use Rattle.std.proofs.lemmas.Int.{ints, to_z-of_z}
use Rattle.carton_base.proofs.Quotients.{floor_at, floor_before, ceil_at, ceil_after}
use Rattle.carton_base.proofs.fractions.quotient.Goals as goal

pub returns-then-rest-lt0 : goal.returns-then-rest-lt0
returns-then-rest-lt0 c =
    let near : SFits w128 c.divided-near.result.near = search rules in
    let a : SFits w128 c.args.a = c.ranges.a in
    let b : SFits w128 c.args.b = c.ranges.b in
    let before : SFits w128 (c.divided-near.result.near -ℤ pos 1) =
    omega (arith, ints, c.divided-near.ensures.size) in
    let whole : c.divided-near.result.near *ℤ c.args.b +ℤ c.divided-near.result.rest ≡ c.args.a =
    simp to_z-of_z at c.divided-near.ensures.whole in
    simp to_z-of_z
    (record {
      down = floor_before c.args.a c.args.b c.divided-near.result.near c.divided-near.result.rest
          whole (omega (arith, ints)) (omega (arith, ints));
      up =
          ceil_at c.args.a c.args.b c.divided-near.result.near c.divided-near.result.rest whole
          (omega (arith, ints)) (omega (arith, ints));
    })

pub returns-then-rest-gt0 : goal.returns-then-rest-gt0
returns-then-rest-gt0 c =
    let near : SFits w128 c.divided-near.result.near = search rules in
    let a : SFits w128 c.args.a = c.ranges.a in
    let b : SFits w128 c.args.b = c.ranges.b in
    let after : SFits w128 (c.divided-near.result.near +ℤ pos 1) =
    omega (arith, ints, c.divided-near.ensures.size) in
    let whole : c.divided-near.result.near *ℤ c.args.b +ℤ c.divided-near.result.rest ≡ c.args.a =
    simp to_z-of_z at c.divided-near.ensures.whole in
    simp to_z-of_z
    (record {
      down = floor_at c.args.a c.args.b c.divided-near.result.near c.divided-near.result.rest
          whole (omega (arith, ints)) (omega (arith, ints));
      up =
          ceil_after c.args.a c.args.b c.divided-near.result.near c.divided-near.result.rest whole
          (omega (arith, ints)) (omega (arith, ints));
    })
