use Rattle.std.proofs.Common.{SFits, to_z-of_z, arith}
use Rattle.std.proofs.lemmas.Int.{ints}
use Rattle.std.specs.Int.{w64, w128}
use Rattle.carton_place.proofs.Starts.{rounded_size, rounded_spread}
use Rattle.carton_place.proofs.placing.coordinate.Goals as goal

pub returns-clause-rounded : goal.returns-clause-rounded
returns-clause-rounded c =
    let n : SFits w64 c.args.n = c.ranges.n in
    let w : SFits w64 c.args.w = c.ranges.w in
    let wide_n : SFits w128 c.args.n = omega (arith, ints, c.ranges.n) in
    let wide_w : SFits w128 c.args.w = omega (arith, ints, c.ranges.w) in
    simp to_z-of_z at c.fraction.ensures

pub returns-clause-size : goal.returns-clause-size
returns-clause-size c = rounded_size _ _ _ _ (omega (arith, ints, c.requires.positive)) c.requires.near
    (returns-clause-rounded c)

pub returns-clause-spread : goal.returns-clause-spread
returns-clause-spread c = rounded_spread _ _ _ _ c.fraction.result.ordered (returns-clause-rounded c)
