use Rattle.std.proofs.Common.{rules, arith, SFits, ◌+ℤ◌}
use Rattle.std.specs.Int.{w128}
use Rattle.std.proofs.lemmas.Int.{ints, to_z-of_z}
use Rattle.carton_reach.proofs.Lists.{at_most_test}
use Rattle.carton_reach.proofs.nearness.is_never_beyond.Goals as goal

pub returns : goal.returns
returns c =
    let r : SFits w128 c.args.room = c.ranges.room in
    let f : SFits w128 (c.args.p.greatest_low +ℤ c.args.room) =
    omega (arith, ints, c.args.p.small_greatest_low, c.requires) in
    grind (rules, to_z-of_z, at_most_test c.args.q.least_high (c.args.p.greatest_low +ℤ c.args.room))
