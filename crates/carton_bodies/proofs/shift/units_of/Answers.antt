use Rattle.std.proofs.Common.{◌≤◌, ◌^◌, ◌-◌, SFits, arith, rules}
use Rattle.std.specs.Int.{w128}
use Rattle.std.proofs.lemmas.Int.{ints, to_z-of_z}
use Rattle.std.proofs.Math.Pow.{pow_mono}
use Rattle.carton_bodies.proofs.shift.units_of.Goals as goal

pub returns-clause-size : goal.returns-clause-size
returns-clause-size c =
    let p : 2 ^ (40 - c.args.depth) ≤ 2 ^ 40 = pow_mono {i = 40 - c.args.depth} {j = 40} (omega arith) in
    let f : SFits w128 c.from.result = search rules in
    simp to_z-of_z (omega (arith, ints, c.from.ensures, p))
