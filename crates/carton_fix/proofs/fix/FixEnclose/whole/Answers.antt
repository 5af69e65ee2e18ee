use Rattle.std.proofs.Common.{arith, SFits, ◌*ℤ◌}
use Rattle.std.specs.Int.{w128}
use Rattle.std.proofs.lemmas.Int.{ints, to_z-of_z}
use Rattle.carton_base.specs.Rounding.{unit}
use Rattle.carton_enclose.proofs.Ends.{holds_whole}
use Rattle.carton_fix.proofs.fix.FixEnclose.whole.Goals as goal

pub returns-clause-holds : goal.returns-clause-holds
returns-clause-holds c = λ n d v m p.
    let a : SFits w128 c.args.n = omega (arith, ints, c.ranges.n) in
    let b : SFits w128 (c.args.n *ℤ unit) = omega (arith, ints, c.requires) in
    let k = c.ranges.n in
    simp to_z-of_z (holds_whole c.args.n v)
