use Rattle.std.proofs.Common.{rules, pos, ◌*ℤ◌, SFits, to_z-of_z}
use Rattle.std.specs.Int.{w128}
use Rattle.carton_base.specs.Rounding.{IsFloor, IsCeil, unit}
use Rattle.carton_text.proofs.Thousandths.{low_fits, high_fits, thousandths_of}
use Rattle.carton_text.proofs.spot.in_thousandths.Goals as goal

pub returns : goal.returns
returns c = λ x v h.
    let l = low_fits c.args.number.lo c.args.number.hi c.requires.size in
    let k = high_fits c.args.number.lo c.args.number.hi c.requires.size in
    let lo : SFits w128 c.args.number.lo = l.plain in
    let hi : SFits w128 c.args.number.hi = k.plain in
    let lo_more : SFits w128 (pos 1000 *ℤ c.args.number.lo) = l.thousandfold in
    let hi_more : SFits w128 (pos 1000 *ℤ c.args.number.hi) = k.thousandfold in
    let low : SFits w128 c.floor_div.result = search rules in
    let high : SFits w128 c.ceil_div.result = search rules in
    let f : IsFloor (pos 1000 *ℤ c.args.number.lo) unit c.floor_div.result =
    simp to_z-of_z at c.floor_div.ensures in
    let g : IsCeil (pos 1000 *ℤ c.args.number.hi) unit c.ceil_div.result =
    simp to_z-of_z at c.ceil_div.ensures in
    simp to_z-of_z (thousandths_of c.args.number.lo c.args.number.hi record {
      low = c.floor_div.result;
      high = c.ceil_div.result;
    } f g c.requires.close x v h)
