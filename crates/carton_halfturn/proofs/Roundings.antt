-- What rounded fractions say. All numbers are in units u of one whole.
use Rattle.std.proofs.Common.{◌≡◌, ℕ, ◌*◌, ℤ, pos, ◌+ℤ◌, unsigned_abs, ◌-ℤ◌, ◌*ℤ◌, neg_ℤ, ◌≤ℤ◌, ◌<ℤ◌, arith}
use Rattle.std.proofs.lemmas.Int.{ints, by_lt_z}
use Rattle.carton_base.specs.Rounding.{IsFloor, IsCeil, unit}
use Rattle.carton_base.proofs.Polynomials.{laid_out, sums, nonneg_product, cancel, positive_product}

-- x / v rounded down and up, for x from -v to v
pub record Rounds (x v u lo hi : ℤ) : Type 0 where
  pub low : neg_ℤ u ≤ℤ lo
  pub high : hi ≤ℤ u
  pub ordered : lo ≤ℤ hi
  pub tight : hi ≤ℤ (lo +ℤ pos 1)

pub rounds : (x v u lo hi : ℤ) → pos 0 <ℤ v → pos 0 ≤ℤ u → neg_ℤ v ≤ℤ x → x ≤ℤ v → IsFloor (x *ℤ u) v lo
    → IsCeil (x *ℤ u) v hi → Rounds x v u lo hi
rounds x v u lo hi v0 u0 from upto f c =
    let a = simp laid_out at (nonneg_product (x +ℤ v) u (omega (arith, sums, from)) u0) in
    let b = simp laid_out at (nonneg_product (v -ℤ x) u (omega (arith, sums, upto)) u0) in
    let fb = f.below in
    let fn = f.next in
    let ca = c.above in
    let cl = c.last in
    record {
      low = by_lt_z lo (neg_ℤ u)
          (λ s. let m = simp laid_out at (nonneg_product (neg_ℤ u -ℤ lo -ℤ pos 1) v (omega (arith, sums, s))
          (omega (arith, sums, v0))) in absurd (omega (arith, ints, m, a, fn))) (λ s. s);
      high = by_lt_z u hi
          (λ s. let m = simp laid_out at (nonneg_product (hi -ℤ u -ℤ pos 1) v (omega (arith, sums, s))
          (omega (arith, sums, v0))) in absurd (omega (arith, ints, m, b, cl))) (λ s. s);
      ordered = cancel lo hi v v0 (omega (arith, sums, fb, ca));
      tight =
          by_lt_z (lo +ℤ pos 1) hi
          (λ s. let m = simp laid_out at (nonneg_product (hi -ℤ lo -ℤ pos 2) v (omega (arith, sums, s))
          (omega (arith, sums, v0))) in absurd (omega (arith, ints, m, fn, cl))) (λ s. s);
    }

-- y / w is at most x / v, which is at most hi
pub over_holds : (x v y w u hi : ℤ) → pos 0 <ℤ v → pos 0 ≤ℤ w → pos 0 ≤ℤ u → (y *ℤ v) ≤ℤ (x *ℤ w)
    → (x *ℤ u) ≤ℤ (hi *ℤ v) → (y *ℤ u) ≤ℤ (hi *ℤ w)
over_holds x v y w u hi v0 w0 u0 le h =
    let a = simp laid_out at (nonneg_product (x *ℤ w -ℤ y *ℤ v) u (omega (arith, sums, le)) u0) in
    let b = simp laid_out at (nonneg_product (hi *ℤ v -ℤ x *ℤ u) w (omega (arith, sums, h)) w0) in
    cancel (y *ℤ u) (hi *ℤ w) v v0 (simp laid_out (omega (arith, sums, a, b)))

-- x / v and y / w differ by at most 2g / d, so x / v rounded up and y / w rounded down differ by at most two
-- units more
pub spread_holds : (x v y w u d g lo hi : ℤ) → pos 0 <ℤ v → pos 0 <ℤ w → pos 0 ≤ℤ u → pos 0 ≤ℤ d
    → ((x *ℤ w -ℤ y *ℤ v) *ℤ d) ≤ℤ (pos 2 *ℤ (g *ℤ (v *ℤ w)))
    → IsCeil (x *ℤ u) v hi → IsFloor (y *ℤ u) w lo → ((hi -ℤ lo) *ℤ d) ≤ℤ ((pos 2 *ℤ g) *ℤ u +ℤ pos 2 *ℤ d)
spread_holds x v y w u d g lo hi v0 w0 u0 d0 near c f =
    let vn : pos 0 ≤ℤ v = omega (arith, sums, v0) in
    let wn : pos 0 ≤ℤ w = omega (arith, sums, w0) in
    let cl = c.last in
    let fn = f.next in
    let a = simp laid_out at (nonneg_product (x *ℤ u -ℤ (hi *ℤ v -ℤ v)) (w *ℤ d) (omega (arith, sums, cl))
    (nonneg_product w d wn d0)) in
    let b = simp laid_out at (nonneg_product ((lo *ℤ w +ℤ w) -ℤ y *ℤ u) (v *ℤ d) (omega (arith, sums, fn))
    (nonneg_product v d vn d0)) in
    let e = simp laid_out at (nonneg_product (pos 2 *ℤ (g *ℤ (v *ℤ w)) -ℤ (x *ℤ w -ℤ y *ℤ v) *ℤ d) u
    (omega (arith, sums, near)) u0) in
    cancel ((hi -ℤ lo) *ℤ d) ((pos 2 *ℤ g) *ℤ u +ℤ pos 2 *ℤ d) (v *ℤ w) (positive_product v w v0 w0)
    (simp laid_out (omega (arith, sums, a, b, e)))

-- the spread over d, for differences of folds up to w
pub spread_within : (lo hi d g : ℤ) (w : ℕ) → pos 0 <ℤ d → g ≤ℤ pos w → ((hi -ℤ lo) *ℤ pos (unsigned_abs d))
    ≤ℤ ((pos 2 *ℤ g) *ℤ unit +ℤ pos 2 *ℤ pos (unsigned_abs d))
    → ((hi -ℤ lo) *ℤ d) ≤ℤ (pos (2 * w) *ℤ unit +ℤ pos 2 *ℤ d)
spread_within lo hi d g w d0 gw h =
    let e : pos (unsigned_abs d) ≡ d = omega (arith, ints, d0) in
    let k = rw e at h in
    let m : ((pos 2 *ℤ g) *ℤ unit) ≤ℤ (pos (2 * w) *ℤ unit) = omega (arith, ints, gw) in
    omega (arith, ints, k, m)
