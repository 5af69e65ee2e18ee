-- Units of 2^-40 as thousandths, rounded outward.
use Rattle.std.proofs.Common.{◌≡◌, ℕ, ◌^◌, ◌≤◌, SFits, ℤ, pos, ◌*ℤ◌, ◌≤ℤ◌, unsigned_abs, sym, ap, ◌∙◌, arith}
use Rattle.std.proofs.lemmas.Int.{ints}
use Rattle.std.specs.Int.{w128}
use Rattle.carton_base.specs.Rounding.{IsFloor, IsCeil, IsBetween, unit}
use Rattle.carton_base.proofs.Products.{mul_le_right, mul_comm_ℤ, mul_assoc_ℤ, le_cancel}
use Rattle.carton_enclose.specs.Held.{size_of, spread_of}
use Rattle.carton_text.specs.Poses.{AreThousandths}
use Rattle.carton_text.specs.declared.spot.Thousandths.{Thousandths}

exchanged : (a b c : ℤ) → (a *ℤ b) *ℤ c ≡ (a *ℤ c) *ℤ b
exchanged a b c = mul_assoc_ℤ a b c ∙ ap (λ z. a *ℤ z) (mul_comm_ℤ b c) ∙ sym (mul_assoc_ℤ a c b)

-- a floor of thousand times the lower bound of x / v
below : (lo low x : ℤ) (v : ℕ) → (low *ℤ unit) ≤ℤ (pos 1000 *ℤ lo) → (lo *ℤ pos v) ≤ℤ (x *ℤ unit)
    → (low *ℤ pos v) ≤ℤ (pos 1000 *ℤ x)
below lo low x v f h =
    let scaled = mul_le_right (low *ℤ unit) (pos 1000 *ℤ lo) (pos v) f (omega (arith, ints)) in
    le_cancel (low *ℤ pos v) (pos 1000 *ℤ x) (2 ^ 40) (omega arith)
    (omega (
      arith,
      ints,
      scaled,
      exchanged low unit (pos v),
      mul_assoc_ℤ (pos 1000) lo (pos v),
      mul_assoc_ℤ (pos 1000) x unit,
      h,
    ))

above : (hi high x : ℤ) (v : ℕ) → (pos 1000 *ℤ hi) ≤ℤ (high *ℤ unit) → (x *ℤ unit) ≤ℤ (hi *ℤ pos v)
    → (pos 1000 *ℤ x) ≤ℤ (high *ℤ pos v)
above hi high x v f h =
    let scaled = mul_le_right (pos 1000 *ℤ hi) (high *ℤ unit) (pos v) f (omega (arith, ints)) in
    le_cancel (pos 1000 *ℤ x) (high *ℤ pos v) (2 ^ 40) (omega arith)
    (omega (
      arith,
      ints,
      scaled,
      exchanged high unit (pos v),
      mul_assoc_ℤ (pos 1000) hi (pos v),
      mul_assoc_ℤ (pos 1000) x unit,
      h,
    ))

-- bounds that lie less than a thousandth apart
pub thousandths_of : (lo hi : ℤ) (b : Thousandths) → IsFloor (pos 1000 *ℤ lo) unit b.low
    → IsCeil (pos 1000 *ℤ hi) unit b.high → spread_of lo hi ≤ 2 ^ 28 → (x : ℤ) (v : ℕ) → IsBetween lo hi x v
    → AreThousandths b x (pos v)
thousandths_of lo hi b f c close x v h = record {
  from = below lo b.low x v f.below h.from;
  upto = above hi b.high x v c.above h.upto;
  narrow = omega (arith, ints, f.next, c.last, close);
}

-- bounds of this size, and thousand times them, fit
pub record HasRoom (z : ℤ) : Type 0 where
  pub plain : SFits w128 z
  pub thousandfold : SFits w128 (pos 1000 *ℤ z)

fits : (z : ℤ) → unsigned_abs z ≤ 2 ^ 63 → HasRoom z
fits z h = record { plain = omega (arith, ints, h); thousandfold = omega (arith, ints, h) }

pub low_fits : (lo hi : ℤ) → size_of lo hi ≤ 2 ^ 63 → HasRoom lo
low_fits lo hi h = fits lo (omega (arith, h))

pub high_fits : (lo hi : ℤ) → size_of lo hi ≤ 2 ^ 63 → HasRoom hi
high_fits lo hi h = fits hi (omega (arith, h))
