-- Fractions that lie between two ends: wholes, sums and negations, and their sizes and spreads.
use Rattle.std.proofs.Common.{◌≡◌, ℕ, ◌+◌, ◌*◌, ◌≤◌, ◌<◌, ◌^◌, ℤ, pos, ◌+ℤ◌, ◌-ℤ◌, ◌*ℤ◌, neg_ℤ, ◌≤ℤ◌, arith}
use Rattle.std.proofs.Common.{SFits, ◌⊎◌, inl, inr}
use Rattle.std.proofs.lemmas.Int.{ints, by_lt_z, fits_signed_from_abs}
use Rattle.std.specs.Int.{w128}
use Rattle.carton_base.specs.Rounding.{unit, IsBetween}
use Rattle.carton_base.proofs.Products.{mul_add_right, mul_neg_right, mul_assoc_ℤ, mul_le_right, le_cancel}
use Rattle.carton_enclose.specs.Held.{Meet, size_of, spread_of}

-- whether a fraction lies between two ends doesn't depend on how it is written
pub same_fraction : (lo hi x y : ℤ) (v w : ℕ) → 0 < v → 0 < w → x *ℤ pos w ≡ y *ℤ pos v → IsBetween lo hi x v
    → IsBetween lo hi y w
same_fraction lo hi x y v w p q s h =
    let nonneg : pos 0 ≤ℤ pos w = omega (arith, ints) in
    let a = mul_le_right _ _ (pos w) h.from nonneg in
    let b = mul_le_right _ _ (pos w) h.upto nonneg in
    let xw : x *ℤ unit *ℤ pos w ≡ y *ℤ unit *ℤ pos v =
    omega (arith, ints, mul_assoc_ℤ x unit (pos w), mul_assoc_ℤ y unit (pos v), s) in
    record {
      from = le_cancel _ _ v p
          (omega (arith, ints, a, xw, mul_assoc_ℤ lo (pos v) (pos w), mul_assoc_ℤ lo (pos w) (pos v)));
      upto = le_cancel _ _ v p
          (omega (arith, ints, b, xw, mul_assoc_ℤ hi (pos v) (pos w), mul_assoc_ℤ hi (pos w) (pos v)));
    }

pub spread_is_gap : (lo hi : ℤ) → lo ≤ℤ hi → pos (spread_of lo hi) ≡ hi -ℤ lo
spread_is_gap lo hi h = omega (arith, ints, h)

-- both ends fit 128 bits, where their size is far below
pub ends_fit : (lo hi : ℤ) → size_of lo hi ≤ 2 ^ 100 → SFits w128 lo × SFits w128 hi
ends_fit lo hi h = (fits_signed_from_abs w128 lo (omega arith), fits_signed_from_abs w128 hi (omega arith))

pub holds_whole : (k : ℤ) (v : ℕ) → IsBetween (k *ℤ unit) (k *ℤ unit) (k *ℤ pos v) v
holds_whole k v = record {
  from = omega (arith, ints, mul_assoc_ℤ k unit (pos v), mul_assoc_ℤ k (pos v) unit);
  upto = omega (arith, ints, mul_assoc_ℤ k unit (pos v), mul_assoc_ℤ k (pos v) unit);
}

pub holds_negation : (a b x : ℤ) (v : ℕ) → IsBetween a b x v → IsBetween (neg_ℤ b) (neg_ℤ a) (neg_ℤ x) v
holds_negation a b x v h =
    record {
      from = omega (arith, ints, h.upto, mul_neg_right b (pos v), mul_neg_right x unit);
      upto = omega (arith, ints, h.from, mul_neg_right a (pos v), mul_neg_right x unit);
    }

pub holds_sum : (a b c d x y : ℤ) (w : ℕ) → IsBetween a b x w → IsBetween c d y w
    → IsBetween (a +ℤ c) (b +ℤ d) (x +ℤ y) w
holds_sum a b c d x y w h k = record {
  from = omega (arith, ints, h.from, k.from, mul_add_right a c (pos w), mul_add_right x y unit);
  upto = omega (arith, ints, h.upto, k.upto, mul_add_right b d (pos w), mul_add_right x y unit);
}

-- sizes and spreads of sums
pub size_sum : (a b c d : ℤ) → size_of (a +ℤ c) (b +ℤ d) ≤ size_of a b + size_of c d
size_sum a b c d = omega (arith, ints)

pub spread_sum : (a b c d : ℤ) → spread_of (a +ℤ c) (b +ℤ d) ≤ spread_of a b + spread_of c d
spread_sum a b c d = omega (arith, ints)

-- ranges in which one fraction lies overlap, and ranges that overlap have a fraction in both
pub meet_overlaps : (a b c e : ℤ) → Meet a b c e → (a ≤ℤ e) × (c ≤ℤ b)
meet_overlaps a b c e m = (
  le_cancel a e m.v m.positive (omega (arith, ints, m.in_first.from, m.in_second.upto)),
  le_cancel c b m.v m.positive (omega (arith, ints, m.in_second.from, m.in_first.upto)),
)

-- the number of units k as a fraction
pub units_between : (lo hi k : ℤ) → lo ≤ℤ k → k ≤ℤ hi → IsBetween lo hi k (2 ^ 40)
units_between lo hi k p q =
    let nonneg : pos 0 ≤ℤ unit = omega (arith, ints) in
    record { from = mul_le_right lo k unit p nonneg; upto = mul_le_right k hi unit q nonneg }

pub overlap_meets : (a b c e : ℤ) → a ≤ℤ b → c ≤ℤ e → a ≤ℤ e → c ≤ℤ b → Meet a b c e
overlap_meets a b c e ab ce ae cb =
    elim (order a c) [
      | inl h ↦ record {
        x = c;
        v = 2 ^ 40;
        positive = omega arith;
        in_first = units_between a b c h cb;
        in_second = units_between c e c (omega (arith, ints)) ce;
      }
      | inr h ↦
          record {
            x = a;
            v = 2 ^ 40;
            positive = omega arith;
            in_first = units_between a b a (omega (arith, ints)) ab;
            in_second = units_between c e a h ae;
          }
    ]
  where
    order : (a c : ℤ) → (a ≤ℤ c) ⊎ (c ≤ℤ a)
    order a c = by_lt_z a c (λ h. inl (omega (arith, ints, h))) (λ h. inr h)

-- a fraction that lies between two ends does so also written with a factor
pub scaled_up : (lo hi x : ℤ) (v k : ℕ) → 0 < v → 0 < k → IsBetween lo hi x v
    → IsBetween lo hi (x *ℤ pos k) (v * k)
scaled_up lo hi x v k p q h =
    let vk : 0 < v * k = grind arith in
    same_fraction lo hi x (x *ℤ pos k) v (v * k) p vk (omega (arith, ints, mul_assoc_ℤ x (pos k) (pos v))) h
