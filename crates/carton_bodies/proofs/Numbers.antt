-- How far a place lies along a normal, how far a half-space reaches, and what these bounds tell, over plain
-- numbers: u is the units in one whole.
use Rattle.std.proofs.Common.{◌≡◌, ap, ℕ, ℤ, pos, ◌+ℤ◌, ◌-ℤ◌, ◌*ℤ◌, neg_ℤ, ◌≤ℤ◌, ◌<ℤ◌, arith}
use Rattle.std.proofs.Common.{unsigned_abs, ◌^◌, ◌≤◌}
use Rattle.std.specs.Int.{int_min, int_max}
use Rattle.std.proofs.lemmas.Int.{ints, clamps, by_lt_z}
use Rattle.carton_base.proofs.Products.{mul_le_right, mul_le_right_turned, mul_add_right}
use Rattle.carton_base.proofs.Polynomials.{laid_out, sums, cancel, positive_product}
use Rattle.carton_base.specs.Rounding.{IsBetween, unit}
use Rattle.carton_base.specs.declared.numbers.Bounds.{Bounds}
use Rattle.carton_enclose.specs.Held.{size_of}
use Rattle.carton_bodies.specs.Depths.{IsScaled}

-- a place at a / w along a normal, in a half-space that reaches to offset + r / d, where the least depth
-- isn't below 0
pub within_side : (a w d offset r high least u : ℤ) → pos 0 <ℤ w → pos 0 <ℤ d → pos 0 <ℤ u
    → (a *ℤ u) ≤ℤ (high *ℤ w) → (least *ℤ d) ≤ℤ (r *ℤ u) → high ≤ℤ (offset *ℤ u +ℤ least)
    → (a *ℤ d) ≤ℤ ((offset *ℤ d +ℤ r) *ℤ w)
within_side a w d offset r high least u pw pd pu ha hr hh =
    let nw : pos 0 ≤ℤ w = omega (arith, ints, pw) in
    let nd : pos 0 ≤ℤ d = omega (arith, ints, pd) in
    let nwd : pos 0 ≤ℤ (w *ℤ d) = omega (arith, ints, positive_product w d pw pd) in
    let x = simp laid_out at (mul_le_right (a *ℤ u) (high *ℤ w) d ha nd) in
    let y = simp laid_out at (mul_le_right (least *ℤ d) (r *ℤ u) w hr nw) in
    let z = simp laid_out at (mul_le_right high (offset *ℤ u +ℤ least) (w *ℤ d) hh nwd) in
    cancel _ _ u pu (simp laid_out (omega (arith, sums, x, y, z)))

-- and where the greatest depth isn't above g
pub shallow_side : (a w d offset r low most g u : ℤ) → pos 0 <ℤ w → pos 0 <ℤ d → pos 0 <ℤ u
    → (low *ℤ w) ≤ℤ (a *ℤ u) → (r *ℤ u) ≤ℤ (most *ℤ d) → (offset *ℤ u +ℤ most) ≤ℤ (g *ℤ u +ℤ low)
    → ((offset *ℤ d +ℤ r) *ℤ w) ≤ℤ (a *ℤ d +ℤ (g *ℤ d) *ℤ w)
shallow_side a w d offset r low most g u pw pd pu ha hr hh =
    let nw : pos 0 ≤ℤ w = omega (arith, ints, pw) in
    let nd : pos 0 ≤ℤ d = omega (arith, ints, pd) in
    let nwd : pos 0 ≤ℤ (w *ℤ d) = omega (arith, ints, positive_product w d pw pd) in
    let x = simp laid_out at (mul_le_right (low *ℤ w) (a *ℤ u) d ha nd) in
    let y = simp laid_out at (mul_le_right (r *ℤ u) (most *ℤ d) w hr nw) in
    let z = simp laid_out at (mul_le_right (offset *ℤ u +ℤ most) (g *ℤ u +ℤ low) (w *ℤ d) hh nwd) in
    cancel _ _ u pu (simp laid_out (omega (arith, sums, x, y, z)))

small_sum : (a b x y z : ℤ) → a ≡ x +ℤ y → b ≡ a +ℤ z → unsigned_abs x ≤ 2 ^ 70 → unsigned_abs y ≤ 2 ^ 70
    → unsigned_abs z ≤ 2 ^ 70 → unsigned_abs b ≤ 2 ^ 72
small_sum a b x y z e f hx hy hz = omega (arith, ints, e, f, hx, hy, hz)

-- the sum of three bounds
pub small_total : (b c x y z : Bounds) → b.lo ≡ x.lo +ℤ y.lo → b.hi ≡ x.hi +ℤ y.hi → c.lo ≡ b.lo +ℤ z.lo
    → c.hi ≡ b.hi +ℤ z.hi → size_of x.lo x.hi ≤ 2 ^ 70 → size_of y.lo y.hi ≤ 2 ^ 70
    → size_of z.lo z.hi ≤ 2 ^ 70 → size_of c.lo c.hi ≤ 2 ^ 72
small_total b c x y z el eh fl fh hx hy hz =
    let lo = small_sum b.lo c.lo x.lo y.lo z.lo el fl
    (omega (arith, hx)) (omega (arith, hy)) (omega (arith, hz)) in
    let hi = small_sum b.hi c.hi x.hi y.hi z.hi eh fh
    (omega (arith, hx)) (omega (arith, hy)) (omega (arith, hz)) in
    omega (arith, lo, hi)

-- a sum of two fractions within bounds
pub plus : (a b c e x y : ℤ) (v : ℕ) → IsBetween a b x v → IsBetween c e y v
    → IsBetween (a +ℤ c) (b +ℤ e) (x +ℤ y) v
plus a b c e x y v p q = record {
  from = omega (arith, ints, mul_add_right a c (pos v), mul_add_right x y unit, p.from, q.from);
  upto = omega (arith, ints, mul_add_right b e (pos v), mul_add_right x y unit, p.upto, q.upto);
}

scaled_up : (c lo hi : ℤ) → pos 0 ≤ℤ c → c ≤ℤ pos 128 → lo ≤ℤ hi → IsScaled c lo hi (c *ℤ lo) (c *ℤ hi)
scaled_up c lo hi p q o = record {
  holds = λ x v h.
      let a = simp laid_out at (mul_le_right (lo *ℤ pos v) (x *ℤ unit) c h.from p) in
      let b = simp laid_out at (mul_le_right (x *ℤ unit) (hi *ℤ pos v) c h.upto p) in
      record { from = simp laid_out (omega (arith, sums, a)); upto = simp laid_out (omega (arith, sums, b)) };
  close =
      let a = simp laid_out at (mul_le_right c (pos 128) (hi -ℤ lo) q (omega (arith, ints, o))) in
      simp laid_out (omega (arith, sums, a));
}

-- a negative c turns the bounds
scaled_down : (c lo hi : ℤ) → c ≤ℤ pos 0 → neg_ℤ (pos 128) ≤ℤ c → lo ≤ℤ hi
    → IsScaled c lo hi (c *ℤ hi) (c *ℤ lo)
scaled_down c lo hi p q o = record {
  holds = λ x v h.
      let a = simp laid_out at (mul_le_right_turned (x *ℤ unit) (hi *ℤ pos v) c h.upto p) in
      let b = simp laid_out at (mul_le_right_turned (lo *ℤ pos v) (x *ℤ unit) c h.from p) in
      record { from = simp laid_out (omega (arith, sums, a)); upto = simp laid_out (omega (arith, sums, b)) };
  close =
      let a = simp laid_out at (mul_le_right (neg_ℤ (pos 128)) c (hi -ℤ lo) q (omega (arith, ints, o))) in
      simp laid_out (omega (arith, sums, a));
}

pub scaled : (c lo hi low high : ℤ) → neg_ℤ (pos 128) ≤ℤ c → c ≤ℤ pos 128 → lo ≤ℤ hi
    → low ≡ int_min (c *ℤ lo) (c *ℤ hi) → high ≡ int_max (c *ℤ lo) (c *ℤ hi) → IsScaled c lo hi low high
scaled c lo hi low high from upto o el eh = by_lt_z c (pos 0)
    (λ l.
    let p : c ≤ℤ pos 0 = omega (arith, ints, l) in
    let t = simp laid_out at (mul_le_right_turned lo hi c o p) in
    let a : low ≡ c *ℤ hi = omega (arith, sums, clamps, el, t) in
    let b : high ≡ c *ℤ lo = omega (arith, sums, clamps, eh, t) in
    rw (a, b) (scaled_down c lo hi p from o))
    (λ p.
    let t = simp laid_out at (mul_le_right lo hi c o p) in
    let a : low ≡ c *ℤ lo = omega (arith, sums, clamps, el, t) in
    let b : high ≡ c *ℤ hi = omega (arith, sums, clamps, eh, t) in
    rw (a, b) (scaled_up c lo hi p upto o))

-- how far a body has shifted at the part m / d of a piece: evenly from the begin on
pub shift_at : (rate q s m d n u : ℤ) → n *ℤ u ≡ q *ℤ (s *ℤ d +ℤ m)
    → (rate *ℤ n) *ℤ u ≡ ((rate *ℤ q) *ℤ s) *ℤ d +ℤ (rate *ℤ q) *ℤ m
shift_at rate q s m d n u e = let a = simp laid_out at (ap (λ z. rate *ℤ z) e) in
    simp laid_out (omega (arith, sums, a))

-- which lies between its two ends
pub from_ends : (begin more m d : ℤ) → pos 0 ≤ℤ m → m ≤ℤ d → (int_min begin (begin +ℤ more) *ℤ d)
    ≤ℤ (begin *ℤ d +ℤ more *ℤ m)
from_ends begin more m d p q = by_lt_z more (pos 0)
    (λ l.
    let least : int_min begin (begin +ℤ more) ≡ begin +ℤ more = omega (arith, ints, clamps, l) in
    let a = simp laid_out at (mul_le_right_turned m d more q (omega (arith, ints, l))) in
    rw least (simp laid_out (omega (arith, sums, a))))
    (λ g.
    let least : int_min begin (begin +ℤ more) ≡ begin = omega (arith, ints, clamps, g) in
    let a = mul_le_right (pos 0) more m g p in
    rw least (omega (arith, ints, a)))

pub upto_ends : (begin more m d : ℤ) → pos 0 ≤ℤ m → m ≤ℤ d → (begin *ℤ d +ℤ more *ℤ m)
    ≤ℤ (int_max begin (begin +ℤ more) *ℤ d)
upto_ends begin more m d p q = by_lt_z more (pos 0)
    (λ l.
    let most : int_max begin (begin +ℤ more) ≡ begin = omega (arith, ints, clamps, l) in
    let a = mul_le_right_turned (pos 0) m more p (omega (arith, ints, l)) in
    rw most (omega (arith, ints, a)))
    (λ g.
    let most : int_max begin (begin +ℤ more) ≡ begin +ℤ more = omega (arith, ints, clamps, g) in
    let a = simp laid_out at (mul_le_right m d more q g) in
    rw most (simp laid_out (omega (arith, sums, a))))
