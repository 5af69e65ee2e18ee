use Rattle.std.proofs.Common.{rules, arith, SFits, ◌-ℤ◌}
use Rattle.std.specs.Int.{w128}
use Rattle.std.proofs.lemmas.Int.{ints, to_z-of_z}
use Rattle.carton_reach.proofs.Lists.{at_most_from_test, test_from_at_most}
use Rattle.carton_stroke.proofs.nearness.is_never_before.Goals as goal

pub returns : goal.returns
returns c =
    let a : SFits w128 c.args.body.greatest_low = search rules in
    let b : SFits w128 c.args.panel.least_high = search rules in
    let r : SFits w128 c.args.room = c.ranges.room in
    let f : SFits w128 (c.args.panel.least_high -ℤ c.args.room) =
    omega (arith, ints, c.args.panel.small_least_high, c.requires) in
    simp to_z-of_z (
      at_most_from_test (c.args.panel.least_high -ℤ c.args.room) c.args.body.greatest_low,
      test_from_at_most (c.args.panel.least_high -ℤ c.args.room) c.args.body.greatest_low,
    )
