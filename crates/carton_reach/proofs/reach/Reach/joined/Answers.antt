use Rattle.std.proofs.Common.{rules, arith}
use Rattle.std.proofs.lemmas.Int.{ints, clamps, to_z-of_z}
use Rattle.carton_reach.proofs.reach.Reach.joined.Goals as goal

pub invariant_of-result : goal.invariant_of-result
invariant_of-result c =
    let a = c.args.self in
    let b = c.args.other in
    record {
      small_least_low =
          omega (arith, ints, clamps, c.min.ensures.value, a.small_least_low, b.small_least_low);
      small_least_high =
          omega (arith, ints, clamps, c.min-2.ensures.value, a.small_least_high, b.small_least_high);
      small_greatest_low =
          omega (arith, ints, clamps, c.max.ensures.value, a.small_greatest_low, b.small_greatest_low);
      small_greatest_high =
          omega (arith, ints, clamps, c.max-2.ensures.value, a.small_greatest_high, b.small_greatest_high);
    }

pub returns-clause-least_low : goal.returns-clause-least_low
returns-clause-least_low c = grind (rules, to_z-of_z, c.min.ensures.value)

pub returns-clause-least_high : goal.returns-clause-least_high
returns-clause-least_high c = grind (rules, to_z-of_z, c.min-2.ensures.value)

pub returns-clause-greatest_low : goal.returns-clause-greatest_low
returns-clause-greatest_low c = grind (rules, to_z-of_z, c.max.ensures.value)

pub returns-clause-greatest_high : goal.returns-clause-greatest_high
returns-clause-greatest_high c = grind (rules, to_z-of_z, c.max-2.ensures.value)
