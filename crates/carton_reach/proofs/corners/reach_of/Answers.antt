use Rattle.std.proofs.Common.{rules, SFits, arith, ◌+◌, pos, ◌-ℤ◌, ◌≤ℤ◌}
use Rattle.std.specs.Int.{w128}
use Rattle.std.proofs.lemmas.Int.{ints, to_z-of_z}
use Rattle.carton_reach.specs.Corners.{HoldsAlong}
use Rattle.carton_reach.proofs.Reached.{one_reach}
use Rattle.carton_reach.proofs.corners.reach_of.Goals as goal

pub returns : goal.returns
returns g c = λ at v is.
    let lf : SFits w128 c.low-low.result = search rules in
    let hf : SFits w128 c.high-high.result = search rules in
    let along : HoldsAlong g.E.Enclose.holds at v c.low-low.result c.high-high.result =
    λ n d x y z w m p h.
    let held = is.held n d x y z w m p h in
    record {
      from = c.low-low.ensures.below n d _ w m p held;
      upto = c.high-high.ensures.above n d _ w m p held;
    } in
    let narrow : (c.high-high.result -ℤ c.low-low.result)
    ≤ℤ pos (g.E.Enclose.spread at.x + g.E.Enclose.spread at.y + g.E.Enclose.spread at.z) =
    omega (
      arith,
      ints,
      c.low-low.ensures.value,
      c.high-high.ensures.value,
      g.met.E.Enclose.apart
          c.args.along,
      is.narrow,
    ) in
    let low = to_z-of_z w128 c.low-low.result lf in
    let high = to_z-of_z w128 c.high-high.result hf in
    one_reach g.E.Enclose.holds g.E.Enclose.spread at v c.low-low.result c.high-high.result _ low high low
    high along narrow
