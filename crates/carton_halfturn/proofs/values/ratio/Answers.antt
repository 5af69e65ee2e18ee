use Rattle.std.proofs.Common.{SFits, unsigned_abs}
use Rattle.std.specs.Int.{w128}
use Rattle.std.proofs.lemmas.Int.{to_z-of_z}
use Rattle.carton_base.specs.Fractions.{IsRounded}
use Rattle.carton_halfturn.proofs.Sizes.{value_of}
use Rattle.carton_halfturn.proofs.values.ratio.Goals as goal

pub returns : goal.returns
returns c =
    let x : SFits w128 c.args.part = c.ranges.part in
    let v : SFits w128 c.args.over = c.ranges.over in
    let r : IsRounded c.args.part (unsigned_abs c.args.over) c.fraction.result.lo c.fraction.result.hi =
    simp to_z-of_z at c.fraction.ensures in
    value_of c.args.part c.args.over c.fraction.result.lo c.fraction.result.hi c.requires.positive
    c.requires.within r
