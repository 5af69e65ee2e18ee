use Rattle.std.proofs.Common.{rules, SFits}
use Rattle.std.specs.Int.{w128, int_div_euclid}
use Rattle.std.proofs.lemmas.Int.{to_z-of_z}
use Rattle.carton_base.proofs.Floors.{div_euclid_floor, unwrapped}
use Rattle.carton_base.proofs.rounding.floor_div.Goals as goal

pub returns : goal.returns
returns c =
    let f : SFits w128 c.div_euclid.result = search rules in
    rw (
      to_z-of_z w128 c.div_euclid.result f,
      unwrapped int_div_euclid c.args.a c.args.b c.div_euclid.result
          c.ranges.a c.ranges.b c.div_euclid.ensures,
    ) (div_euclid_floor _ _ c.requires)
