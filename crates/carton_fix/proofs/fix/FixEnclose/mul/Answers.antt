use Rattle.std.proofs.Common.{arith}
use Rattle.carton_base.specs.Rounding.{unit, IsFloor, IsCeil}
use Rattle.carton_fix.specs.Corners.{least_corner_of, greatest_corner_of}
use Rattle.carton_fix.proofs.Corners.{corners_size, holds_product, size_product, spread_of_product}
use Rattle.carton_fix.proofs.fix.FixEnclose.mul.Goals as goal

pub outward-requires : goal.outward-requires
outward-requires c =
    let most = corners_size c.args.self.lo c.args.self.hi c.args.other.lo c.args.other.hi in
    rw (c.corners.ensures.least, c.corners.ensures.greatest) (omega (arith, most, c.requires))

pub returns : goal.returns
returns c =
    let a = c.args.self in
    let b = c.args.other in
    let f = c.outward.result in
    let low : IsFloor (least_corner_of a.lo a.hi b.lo b.hi) unit f.lo =
    rw c.corners.ensures.least at c.outward.ensures.low in
    let high : IsCeil (greatest_corner_of a.lo a.hi b.lo b.hi) unit f.hi =
    rw c.corners.ensures.greatest at c.outward.ensures.high in
    record {
      holds = λ n d x y v w m p q hx hy. holds_product a.lo a.hi b.lo b.hi f.lo f.hi x y v w low high hx hy;
      size = size_product a.lo a.hi b.lo b.hi f.lo f.hi low high;
      spread = spread_of_product a.lo a.hi b.lo b.hi f.lo f.hi low high a.ordered b.ordered f.ordered;
    }
