use Rattle.std.proofs.Common.{pos, arith}
use Rattle.std.proofs.lemmas.Int.{ints}
use Rattle.carton_place.proofs.Ramps.{coarser, close_still}
use Rattle.carton_place.proofs.joints.still.Goals as goal

pub returns : goal.returns
returns c = λ motion index depth. record {
  follows = λ m n d o p. coarser c.swing_of.result m d record { num = pos 0; den = 1 } _ _ d o.some
      record { num = omega (arith, ints); den = omega arith } (c.swing_of.ensures.holds m d o);
  close = record {
    cos = close_still _ _ _ c.swing_of.result.cos.all.ordered c.swing_of.ensures.cos_narrow;
    sin = close_still _ _ _ c.swing_of.result.sin.all.ordered c.swing_of.ensures.sin_narrow;
  };
}
