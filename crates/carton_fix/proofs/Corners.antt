-- Products of numbers that lie between two ends: the rounded corners, their size and their spread.
use Rattle.std.proofs.Common.{◌≡◌, ℕ, ◌+◌, ◌*◌, ◌≤◌, ◌^◌, ℤ, pos, ◌+ℤ◌, ◌-ℤ◌, ◌*ℤ◌, neg_ℤ, ◌≤ℤ◌, arith, ap}
use Rattle.std.proofs.Common.{sym, ◌∙◌, unsigned_abs, subst, Bool, true, false, cond, SFits}
use Rattle.std.proofs.Common.{to_z, of_z}
use Rattle.std.proofs.lemmas.Int.{ints, clamps, fits_signed_mul}
use Rattle.std.specs.Int.{int_min, int_max, w128}
use Rattle.std.specs.Int.RustNames.{int_lt}
use Rattle.carton_base.specs.Rounding.{unit, IsFloor, IsCeil, IsBetween}
use Rattle.carton_base.proofs.Products.{mul_sub_right, mul_neg_right, mul_assoc_ℤ, mul_comm_ℤ, mul_le_right}
use Rattle.carton_base.proofs.Products.{le_cancel, Between, corners_above, corners_below}
use Rattle.carton_enclose.specs.Held.{size_of, spread_of}
use Rattle.carton_enclose.proofs.Ends.{spread_is_gap}
use Rattle.carton_fix.specs.Corners.{least_corner_of, greatest_corner_of}

pick : (P : ℤ → Type 0) (b : Bool) (x y : ℤ) → P x → P y → P (cond b x y)
pick P true x y p q = p
pick P false x y p q = q

-- what holds of four numbers holds of the least, and of the greatest
pub of_min : (P : ℤ → Type 0) (a b c d : ℤ) → P a → P b → P c → P d → P (int_min (int_min a b) (int_min c d))
of_min P a b c d p q r s =
    let first = int_min a b in
    pick P (int_lt (int_min c d) first) _ _ (pick P (int_lt d c) _ _ s r) (pick P (int_lt b a) _ _ q p)

pub of_max : (P : ℤ → Type 0) (a b c d : ℤ) → P a → P b → P c → P d → P (int_max (int_max a b) (int_max c d))
of_max P a b c d p q r s =
    let first = int_max a b in
    pick P (int_lt (int_max c d) first) _ _ (pick P (int_lt b a) _ _ p q) (pick P (int_lt d c) _ _ r s)

pub within : (x : ℤ) (n : ℕ) → unsigned_abs x ≤ n → Between (neg_ℤ (pos n)) (pos n) x
within x n h = record { from = omega (arith, ints, h); upto = omega (arith, ints, h) }

-- |x| ≤ s and |y| ≤ r: the product is at most s * r
pub product_within : (x y : ℤ) (s r : ℕ) → Between (neg_ℤ (pos s)) (pos s) x
    → Between (neg_ℤ (pos r)) (pos r) y → (x *ℤ y) ≤ℤ (pos s *ℤ pos r)
product_within x y s r p q =
    let a : (neg_ℤ (pos s) *ℤ neg_ℤ (pos r)) ≤ℤ (pos s *ℤ pos r) =
    omega (arith, ints, mul_neg_right (pos s) (neg_ℤ (pos r)), mul_neg_right (pos r) (pos s)) in
    let b : (neg_ℤ (pos s) *ℤ pos r) ≤ℤ (pos s *ℤ pos r) =
    omega (arith, ints, mul_neg_right (pos s) (pos r)) in
    let d : (pos s *ℤ neg_ℤ (pos r)) ≤ℤ (pos s *ℤ pos r) =
    omega (arith, ints, mul_neg_right (pos r) (pos s)) in
    let e : (pos s *ℤ pos r) ≤ℤ (pos s *ℤ pos r) = omega (arith, ints) in
    corners_above (neg_ℤ (pos s)) (pos s) (neg_ℤ (pos r)) (pos r) x y (pos s *ℤ pos r) p q a b d e

-- two products of numbers from the same bounds differ by little
pub gap : (a b c d p q p' q' : ℤ) (s t : ℕ) → a ≤ℤ b → c ≤ℤ d → unsigned_abs p ≤ s → unsigned_abs q' ≤ t
    → Between a b p → Between a b p' → Between c d q → Between c d q' → (p *ℤ q -ℤ p' *ℤ q')
    ≤ℤ (pos s *ℤ (d -ℤ c) +ℤ pos t *ℤ (b -ℤ a))
gap a b c d p q p' q' s t ab cd ps qt pa pa' qc qc' =
    let u : ℕ = unsigned_abs (b -ℤ a) in
    let v : ℕ = unsigned_abs (d -ℤ c) in
    let bu : b -ℤ a ≡ pos u = omega (arith, ints) in
    let dv : d -ℤ c ≡ pos v = omega (arith, ints) in
    let e : (p *ℤ q -ℤ p' *ℤ q') ≡ (p *ℤ (q -ℤ q') +ℤ (p -ℤ p') *ℤ q') =
    omega (arith, ints, mul_sub_right p p' q', mul_sub_right q q' p) in
    let f = product_within p (q -ℤ q') s v (within p s ps)
    record {
      from = omega (arith, ints, qc.from, qc'.upto, dv);
      upto = omega (arith, ints, qc.upto, qc'.from, dv);
    } in
    let h = product_within q' (p -ℤ p') t u (within q' t qt)
    record {
      from = omega (arith, ints, pa.from, pa'.upto, bu);
      upto = omega (arith, ints, pa.upto, pa'.from, bu);
    } in
    rw (bu, dv) (omega (arith, ints, e, f, h))

pub low_size : (lo hi : ℤ) → unsigned_abs lo ≤ size_of lo hi
low_size lo hi = omega arith

pub high_size : (lo hi : ℤ) → unsigned_abs hi ≤ size_of lo hi
high_size lo hi = omega arith

-- z as a number of 128 bits
abbrev held : ℤ → ℤ
held z = to_z w128 (of_z w128 z)

-- the sums of the ends of two intervals of bounded size are what 128 bits hold
pub added : (a b c d : ℤ) → size_of a b ≤ 2 ^ 84 → size_of c d ≤ 2 ^ 84
    → (held (held a +ℤ held c) ≡ a +ℤ c) × (held (held b +ℤ held d) ≡ b +ℤ d)
added a b c d p q = (omega (arith, ints), omega (arith, ints))

-- the products of a number and two ends fit
pub times_fit : (x lo hi : ℤ) → unsigned_abs x * size_of lo hi ≤ 2 ^ 125
    → SFits w128 (x *ℤ lo) × SFits w128 (x *ℤ hi)
times_fit x lo hi h =
    let fits : (y : ℤ) → unsigned_abs y ≤ size_of lo hi → SFits w128 (x *ℤ y) =
    λ y q. fits_signed_mul w128 x y (unsigned_abs x) (size_of lo hi) (omega arith) q (omega arith) in
    (fits lo (low_size lo hi), fits hi (high_size lo hi))

-- ---- what the rounded corners hold
regroup : (a c v w : ℤ) → (a *ℤ c) *ℤ (v *ℤ w) ≡ (a *ℤ v) *ℤ (c *ℤ w)
regroup a c v w =
    let inner : c *ℤ (v *ℤ w) ≡ v *ℤ (c *ℤ w) = sym (mul_assoc_ℤ c v w) ∙ ap (λ z. z *ℤ w) (mul_comm_ℤ c v)
    ∙ mul_assoc_ℤ v c w in
    mul_assoc_ℤ a c (v *ℤ w) ∙ ap (λ z. a *ℤ z) inner ∙ sym (mul_assoc_ℤ a v (c *ℤ w))

pub record IsLeast (m p q r s : ℤ) : Type 0 where
  pub first : m ≤ℤ p
  pub second : m ≤ℤ q
  pub third : m ≤ℤ r
  pub fourth : m ≤ℤ s

pub record IsGreatest (m p q r s : ℤ) : Type 0 where
  pub first : p ≤ℤ m
  pub second : q ≤ℤ m
  pub third : r ≤ℤ m
  pub fourth : s ≤ℤ m

least : (p q r s : ℤ) → IsLeast (int_min (int_min p q) (int_min r s)) p q r s
least p q r s = record {
  first = omega (arith, ints, clamps);
  second = omega (arith, ints, clamps);
  third = omega (arith, ints, clamps);
  fourth = omega (arith, ints, clamps);
}

greatest : (p q r s : ℤ) → IsGreatest (int_max (int_max p q) (int_max r s)) p q r s
greatest p q r s = record {
  first = omega (arith, ints, clamps);
  second = omega (arith, ints, clamps);
  third = omega (arith, ints, clamps);
  fourth = omega (arith, ints, clamps);
}

-- the corners bound the product of what is held, and outward rounding keeps that
pub holds_product : (a b c d low high x y : ℤ) (v w : ℕ) → IsFloor (least_corner_of a b c d) unit low
    → IsCeil (greatest_corner_of a b c d) unit high → IsBetween a b x v → IsBetween c d y w
    → IsBetween low high (x *ℤ y) (v * w)
holds_product a b c d low high x y v w f e hx hy =
    let vw : ℤ = pos v *ℤ pos w in
    let nonneg : pos 0 ≤ℤ vw = omega (arith, ints) in
    let l = least (a *ℤ c) (a *ℤ d) (b *ℤ c) (b *ℤ d) in
    let g = greatest (a *ℤ c) (a *ℤ d) (b *ℤ c) (b *ℤ d) in
    let px : Between (a *ℤ pos v) (b *ℤ pos v) (x *ℤ unit) = record { from = hx.from; upto = hx.upto } in
    let py : Between (c *ℤ pos w) (d *ℤ pos w) (y *ℤ unit) = record { from = hy.from; upto = hy.upto } in
    let at : (p q : ℤ) → (p *ℤ q) *ℤ vw ≡ (p *ℤ pos v) *ℤ (q *ℤ pos w) = λ p q. regroup p q (pos v) (pos w) in
    let below : (p q : ℤ) → least_corner_of a b c d ≤ℤ (p *ℤ q) → ((low *ℤ unit) *ℤ vw)
    ≤ℤ ((p *ℤ pos v) *ℤ (q *ℤ pos w)) =
    λ p q k. subst (λ z. ((low *ℤ unit) *ℤ vw) ≤ℤ z) (at p q)
    (mul_le_right _ _ vw (omega (arith, ints, f.below, k)) nonneg) in
    let above : (p q : ℤ) → (p *ℤ q) ≤ℤ greatest_corner_of a b c d → ((p *ℤ pos v) *ℤ (q *ℤ pos w))
    ≤ℤ ((high *ℤ unit) *ℤ vw) =
    λ p q k. subst (λ z. z ≤ℤ ((high *ℤ unit) *ℤ vw)) (at p q)
    (mul_le_right _ _ vw (omega (arith, ints, e.above, k)) nonneg) in
    let m = corners_below _ _ _ _ _ _ ((low *ℤ unit) *ℤ vw) px py (below a c l.first) (below a d l.second)
    (below b c l.third) (below b d l.fourth) in
    let n = corners_above _ _ _ _ _ _ ((high *ℤ unit) *ℤ vw) px py (above a c g.first) (above a d g.second)
    (above b c g.third) (above b d g.fourth) in
    let xy : (x *ℤ unit) *ℤ (y *ℤ unit) ≡ ((x *ℤ y) *ℤ unit) *ℤ unit = sym (regroup x y unit unit)
    ∙ sym (mul_assoc_ℤ (x *ℤ y) unit unit) in
    let turn : (z : ℤ) → (z *ℤ unit) *ℤ vw ≡ (z *ℤ vw) *ℤ unit = λ z. mul_assoc_ℤ z unit vw
    ∙ ap (λ k. z *ℤ k) (mul_comm_ℤ unit vw) ∙ sym (mul_assoc_ℤ z vw unit) in
    record {
      from = le_cancel (low *ℤ pos (v * w)) ((x *ℤ y) *ℤ unit) (2 ^ 40) (omega arith)
          (omega (arith, ints, m, xy, turn low));
      upto = le_cancel ((x *ℤ y) *ℤ unit) (high *ℤ pos (v * w)) (2 ^ 40) (omega arith)
          (omega (arith, ints, n, xy, turn high));
    }

pub spread_product : (a b c d low high : ℤ) → IsFloor (least_corner_of a b c d) unit low
    → IsCeil (greatest_corner_of a b c d) unit high → a ≤ℤ b → c ≤ℤ d → ((high -ℤ low) *ℤ unit)
    ≤ℤ (pos (size_of a b) *ℤ (d -ℤ c) +ℤ pos (size_of c d) *ℤ (b -ℤ a) +ℤ pos 2 *ℤ unit)
spread_product a b c d low high f e ab cd =
    let ina : Between a b a = record { from = omega (arith, ints); upto = ab } in
    let inb : Between a b b = record { from = ab; upto = omega (arith, ints) } in
    let inc : Between c d c = record { from = omega (arith, ints); upto = cd } in
    let ind : Between c d d = record { from = cd; upto = omega (arith, ints) } in
    let s : ℕ = size_of a b in
    let t : ℕ = size_of c d in
    let most : ℤ = pos s *ℤ (d -ℤ c) +ℤ pos t *ℤ (b -ℤ a) in
    let each : (p q : ℤ) → unsigned_abs p ≤ s → Between a b p → Between c d q
    → (p *ℤ q -ℤ least_corner_of a b c d) ≤ℤ most =
    λ p q ps pa qc. of_min (λ z. (p *ℤ q -ℤ z) ≤ℤ most) (a *ℤ c) (a *ℤ d) (b *ℤ c) (b *ℤ d)
    (gap a b c d p q a c s t ab cd ps (low_size c d) pa ina qc inc)
    (gap a b c d p q a d s t ab cd ps (high_size c d) pa ina qc ind)
    (gap a b c d p q b c s t ab cd ps (low_size c d) pa inb qc inc)
    (gap a b c d p q b d s t ab cd ps (high_size c d) pa inb qc ind) in
    let all : (greatest_corner_of a b c d -ℤ least_corner_of a b c d) ≤ℤ most =
    of_max (λ z. (z -ℤ least_corner_of a b c d) ≤ℤ most) (a *ℤ c) (a *ℤ d) (b *ℤ c) (b *ℤ d)
    (each a c (low_size a b) ina inc) (each a d (low_size a b) ina ind) (each b c (high_size a b) inb inc)
    (each b d (high_size a b) inb ind) in
    omega (arith, ints, all, f.next, e.last, mul_sub_right high low unit)

-- the size of a product of numbers of bounded size
product_size : (x y : ℤ) (m n : ℕ) → unsigned_abs x ≤ m → unsigned_abs y ≤ n
    → Between (neg_ℤ (pos (m * n))) (pos (m * n)) (x *ℤ y)
product_size x y m n p q =
    let a = product_within x y m n (within x m p) (within y n q) in
    let b = product_within (neg_ℤ x) y m n (within (neg_ℤ x) m (omega (arith, ints, p))) (within y n q) in
    record { from = omega (arith, ints, b, mul_neg_right x y); upto = omega (arith, ints, a) }

-- the corners are at most the product of the two sizes
pub corners_size : (a b c d : ℤ) → size_of (least_corner_of a b c d) (greatest_corner_of a b c d)
    ≤ size_of a b * size_of c d
corners_size a b c d =
    let s : ℕ = size_of a b in
    let t : ℕ = size_of c d in
    let P : ℤ → Type 0 = Between (neg_ℤ (pos (s * t))) (pos (s * t)) in
    let ac = product_size a c s t (low_size a b) (low_size c d) in
    let ad = product_size a d s t (low_size a b) (high_size c d) in
    let bc = product_size b c s t (high_size a b) (low_size c d) in
    let bd = product_size b d s t (high_size a b) (high_size c d) in
    let l = of_min P _ _ _ _ ac ad bc bd in
    let g = of_max P _ _ _ _ ac ad bc bd in
    sizes (s * t) (least_corner_of a b c d) (greatest_corner_of a b c d) l g
  where
    sizes : (n : ℕ) (l g : ℤ) → Between (neg_ℤ (pos n)) (pos n) l → Between (neg_ℤ (pos n)) (pos n) g
        → size_of l g ≤ n
    sizes n l g p q = omega (arith, ints, p.from, p.upto, q.from, q.upto)

pub corners_ordered : (a b c d : ℤ) → least_corner_of a b c d ≤ℤ greatest_corner_of a b c d
corners_ordered a b c d =
    let l = least (a *ℤ c) (a *ℤ d) (b *ℤ c) (b *ℤ d) in
    let g = greatest (a *ℤ c) (a *ℤ d) (b *ℤ c) (b *ℤ d) in
    omega (arith, ints, l.first, g.first)

pub size_product : (a b c d low high : ℤ) → IsFloor (least_corner_of a b c d) unit low
    → IsCeil (greatest_corner_of a b c d) unit high → size_of low high * 2 ^ 40 ≤ size_of a b * size_of c d
    + 2 ^ 40
size_product a b c d low high f e = rounded low high (size_of a b * size_of c d) (least_corner_of a b c d)
    (greatest_corner_of a b c d) (corners_size a b c d) f e
  where
    rounded : (low high : ℤ) (n : ℕ) (l g : ℤ) → size_of l g ≤ n → IsFloor l unit low → IsCeil g unit high
        → size_of low high * 2 ^ 40 ≤ n + 2 ^ 40
    rounded low high n l g h f e = omega (arith, ints, h, f.below, f.next, e.above, e.last)

-- the same in natural numbers
pub spread_of_product : (a b c d low high : ℤ) → IsFloor (least_corner_of a b c d) unit low
    → IsCeil (greatest_corner_of a b c d) unit high → a ≤ℤ b → c ≤ℤ d → low ≤ℤ high
    → spread_of low high * 2 ^ 40 ≤ size_of a b * spread_of c d + size_of c d * spread_of a b + 2 * 2 ^ 40
spread_of_product a b c d low high f e ab cd lh =
    let ba = sym (spread_is_gap a b ab) in
    let dc = sym (spread_is_gap c d cd) in
    let gap = sym (spread_is_gap low high lh) in
    let k = rw (gap, dc, ba) at (spread_product a b c d low high f e ab cd) in
    omega (arith, ints, k)
