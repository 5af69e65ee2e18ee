use Rattle.std.proofs.Common.{◌≡◌, pos, unsigned_abs, subst, arith}
use Rattle.std.proofs.lemmas.Int.{ints}
use Rattle.carton_text.specs.Poses.{AreThousandths}
use Rattle.carton_text.proofs.spot.spot_in.Goals as goal

pub returns : goal.returns
returns c = λ n d p h.
    let w : pos (unsigned_abs p.w) ≡ p.w = omega (arith, ints, h.positive) in
    record {
      positive = h.positive;
      x = subst (AreThousandths c.in_thousandths.result p.x) w
          (c.in_thousandths.ensures p.x (unsigned_abs p.w) h.point.0);
      y = subst (AreThousandths c.in_thousandths-2.result p.y) w
          (c.in_thousandths-2.ensures p.y (unsigned_abs p.w) h.point.1);
      z = subst (AreThousandths c.in_thousandths-3.result p.z) w
          (c.in_thousandths-3.ensures p.z (unsigned_abs p.w) h.point.2);
    }
