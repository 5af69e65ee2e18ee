-- The points of a shrunk panel lie no farther from the origin than its corners.
use Rattle.std.proofs.Common.{◌≡◌, ap, subst, ℕ, ◌<◌, ◌≤◌, ◌*◌, ℤ, pos, ◌+ℤ◌, ◌*ℤ◌, neg_ℤ, ◌≤ℤ◌, ◌<ℤ◌}
use Rattle.std.proofs.Common.{unsigned_abs, arith}
use Rattle.std.specs.Prelude.{All, Contains, List}
use Rattle.std.proofs.lemmas.Int.{ints}
use Rattle.carton_base.proofs.Products.{mul_le_right, le_cancel}
use Rattle.carton_base.proofs.Polynomials.{laid_out, sums}
use Rattle.carton_base.specs.declared.dieline.Point.{Point}
use Rattle.carton_base.specs.declared.limits.TheConstants.{FARTHEST}
use Rattle.carton_base.specs.declared.numbers.Triple.{Triple}
use Rattle.carton_model.specs.Dielines.{IsNear}
use Rattle.carton_model.specs.Points.{IsNearPoint}
use Rattle.carton_panels.specs.Shapes.{Shape, IsShape}
use Rattle.carton_panels.specs.Shrinking.{InShrunk}

-- a mean of numbers that are at most far times their weights
mean_below : (k l m n : ℕ) (far x a b c v w u : ℤ) → 0 < k → a ≤ℤ (far *ℤ v) → b ≤ℤ (far *ℤ w)
    → c ≤ℤ (far *ℤ u)
    → pos k *ℤ x ≡ pos l *ℤ a +ℤ pos m *ℤ b +ℤ pos n *ℤ c → pos k *ℤ pos 1 ≡ pos l *ℤ v +ℤ pos m *ℤ w
    +ℤ pos n *ℤ u → x ≤ℤ far
mean_below k l m n far x a b c v w u some ha hb hc e f =
    let pa = simp laid_out at (mul_le_right a (far *ℤ v) (pos l) ha (omega (arith, ints))) in
    let pb = simp laid_out at (mul_le_right b (far *ℤ w) (pos m) hb (omega (arith, ints))) in
    let pc = simp laid_out at (mul_le_right c (far *ℤ u) (pos n) hc (omega (arith, ints))) in
    let whole : pos k ≡ pos l *ℤ v +ℤ pos m *ℤ w +ℤ pos n *ℤ u = omega (arith, ints, f) in
    let g = simp laid_out at (ap (λ z. far *ℤ z) whole) in
    let ex = simp laid_out at e in
    le_cancel x far k some (omega (arith, sums, pa, pb, pc, g, ex))

negated : (k l m n : ℕ) (x a b c : ℤ) → pos k *ℤ x ≡ pos l *ℤ a +ℤ pos m *ℤ b +ℤ pos n *ℤ c
    → pos k *ℤ neg_ℤ x ≡ pos l *ℤ neg_ℤ a +ℤ pos m *ℤ neg_ℤ b +ℤ pos n *ℤ neg_ℤ c
negated k l m n x a b c e = let g = simp laid_out at e in simp laid_out (omega (arith, sums, g))

-- the same either way
mean_near : (k l m n : ℕ) (x a b c v w u : ℤ) → 0 < k → pos 0 <ℤ v → pos 0 <ℤ w → pos 0 <ℤ u
    → unsigned_abs a ≤ FARTHEST * unsigned_abs v → unsigned_abs b ≤ FARTHEST * unsigned_abs w
    → unsigned_abs c ≤ FARTHEST * unsigned_abs u
    → pos k *ℤ x ≡ pos l *ℤ a +ℤ pos m *ℤ b +ℤ pos n *ℤ c → pos k *ℤ pos 1 ≡ pos l *ℤ v +ℤ pos m *ℤ w
    +ℤ pos n *ℤ u → unsigned_abs x ≤ FARTHEST
mean_near k l m n x a b c v w u some pv pw pu ha hb hc e f =
    let upper = mean_below k l m n (pos FARTHEST) x a b c v w u some (omega (arith, ints, ha, pv))
    (omega (arith, ints, hb, pw)) (omega (arith, ints, hc, pu)) e f in
    let lower = mean_below k l m n (pos FARTHEST) (neg_ℤ x) (neg_ℤ a) (neg_ℤ b) (neg_ℤ c) v w u some
    (omega (arith, ints, ha, pv)) (omega (arith, ints, hb, pw)) (omega (arith, ints, hc, pu))
    (negated k l m n x a b c e) f in
    omega (arith, ints, upper, lower)

near_corner : (ts : List Triple) (t : Triple) → All IsNearPoint ts → Contains ts t → IsNearPoint t
near_corner ts t all h = subst IsNearPoint h.2 (all h.0 t h.1)

pub near_in : (s : Shape) (p : Point) → IsShape s → InShrunk s.margin s.places p.x p.y (pos 1) → IsNear p
near_in s p h inside =
    let g = h.generates p.x p.y (pos 1) (omega (arith, ints)) inside in
    let a = g.0 in
    let b = g.1 in
    let c = g.2 in
    let na = near_corner s.shrunk a h.shrunk_near g.3 in
    let nb = near_corner s.shrunk b h.shrunk_near g.4 in
    let nc = near_corner s.shrunk c h.shrunk_near g.5 in
    let m = g.6 in
    record {
      x = mean_near m.k m.l m.m m.n p.x a.x b.x c.x a.w b.w c.w m.some a.positive b.positive c.positive na.x
          nb.x nc.x m.x_part m.w_part;
      y = mean_near m.k m.l m.m m.n p.y a.y b.y c.y a.w b.w c.w m.some a.positive b.positive c.positive na.y
          nb.y nc.y m.y_part m.w_part;
    }
