-- How fast a value rises at most, by the chord to its last one or by how steep it is.
use Rattle.std.proofs.Common.{ℤ, pos, ◌+ℤ◌, ◌-ℤ◌, ◌*ℤ◌, ◌≤ℤ◌, ◌<ℤ◌, arith}
use Rattle.carton_base.proofs.Polynomials.{laid_out, sums, nonneg_product, cancel, positive_product}
use Rattle.carton_halfturn.proofs.Chords.{Bend}

-- the chord from x0 / v0, at least a, to x1 / v1, at most b
chord_at_most : (x0 v0 x1 v1 u a b : ℤ) → pos 0 ≤ℤ v0 → pos 0 ≤ℤ v1 → (x1 *ℤ u) ≤ℤ (b *ℤ v1)
    → (a *ℤ v0) ≤ℤ (x0 *ℤ u) → ((x1 *ℤ v0 -ℤ x0 *ℤ v1) *ℤ u) ≤ℤ ((b -ℤ a) *ℤ (v0 *ℤ v1))
chord_at_most x0 v0 x1 v1 u a b p q h k =
    let m = simp laid_out at (nonneg_product (b *ℤ v1 -ℤ x1 *ℤ u) v0 (omega (arith, sums, h)) p) in
    let n = simp laid_out at (nonneg_product (x0 *ℤ u -ℤ a *ℤ v0) v1 (omega (arith, sums, k)) q) in
    simp laid_out (omega (arith, sums, m, n))

-- c is what the value gained, b what the whole chord gains
bent_at_most : (k n e g c b v v0 v1 t r u : ℤ) → pos 0 ≤ℤ n → pos 0 <ℤ e → pos 0 ≤ℤ u → pos 0 ≤ℤ v
    → pos 0 ≤ℤ v0 → pos 0 <ℤ v1
    → (((c *ℤ k) *ℤ v1 -ℤ (b *ℤ n) *ℤ v) *ℤ (e *ℤ e)) ≤ℤ ((pos 2 *ℤ (n *ℤ (g *ℤ g))) *ℤ (v *ℤ (v0 *ℤ v1)))
    → (b *ℤ u) ≤ℤ (t *ℤ (v0 *ℤ v1)) → ((pos 2 *ℤ (g *ℤ g)) *ℤ u) ≤ℤ (r *ℤ (e *ℤ e))
    → ((c *ℤ k) *ℤ u) ≤ℤ ((t +ℤ r) *ℤ (n *ℤ (v0 *ℤ v)))
bent_at_most k n e g c b v v0 v1 t r u n0 e0 u0 v0' v00 v1' bent chord wide =
    let en : pos 0 ≤ℤ e = omega (arith, sums, e0) in
    let vn : pos 0 ≤ℤ v1 = omega (arith, sums, v1') in
    let ee = nonneg_product e e en en in
    let one =
    simp laid_out at
    (nonneg_product u
    ((pos 2 *ℤ (n *ℤ (g *ℤ g))) *ℤ (v *ℤ (v0 *ℤ v1)) -ℤ ((c *ℤ k) *ℤ v1 -ℤ (b *ℤ n) *ℤ v) *ℤ (e *ℤ e)) u0
    (omega (arith, sums, bent))) in
    let two = simp laid_out at (nonneg_product (n *ℤ (v *ℤ (e *ℤ e))) (t *ℤ (v0 *ℤ v1) -ℤ b *ℤ u)
    (nonneg_product n (v *ℤ (e *ℤ e)) n0 (nonneg_product v (e *ℤ e) v0' ee))
    (omega (arith, sums, chord))) in
    let three =
    simp laid_out at (nonneg_product (n *ℤ (v *ℤ (v0 *ℤ v1))) (r *ℤ (e *ℤ e) -ℤ (pos 2 *ℤ (g *ℤ g)) *ℤ u)
    (nonneg_product n (v *ℤ (v0 *ℤ v1)) n0
    (nonneg_product v (v0 *ℤ v1) v0' (nonneg_product v0 v1 v00 vn))) (omega (arith, sums, wide))) in
    cancel ((c *ℤ k) *ℤ u) ((t +ℤ r) *ℤ (n *ℤ (v0 *ℤ v))) (v1 *ℤ (e *ℤ e))
    (positive_product v1 (e *ℤ e) v1' (positive_product e e e0 e0))
    (simp laid_out (omega (arith, sums, one, two, three)))

pub record Signs (n e u v v0 v1 : ℤ) : Type 0 where
  pub moment : pos 0 ≤ℤ n
  pub den : pos 0 <ℤ e
  pub units : pos 0 ≤ℤ u
  pub here : pos 0 ≤ℤ v
  pub first : pos 0 ≤ℤ v0
  pub last : pos 0 <ℤ v1

pub bent_gain : (k n e g u x v x0 v0 x1 v1 a b r : ℤ) → Signs n e u v v0 v1 → Bend k n e g x v x0 v0 x1 v1
    → (a *ℤ v0) ≤ℤ (x0 *ℤ u) → (x1 *ℤ u) ≤ℤ (b *ℤ v1) → ((pos 2 *ℤ (g *ℤ g)) *ℤ u) ≤ℤ (r *ℤ (e *ℤ e))
    → (((x *ℤ v0 -ℤ x0 *ℤ v) *ℤ k) *ℤ u) ≤ℤ ((b -ℤ a +ℤ r) *ℤ (n *ℤ (v0 *ℤ v)))
bent_gain k n e g u x v x0 v0 x1 v1 a b r s bend first last wide =
    let end : pos 0 ≤ℤ v1 = omega (arith, sums, s.last) in
    bent_at_most k n e g (x *ℤ v0 -ℤ x0 *ℤ v) (x1 *ℤ v0 -ℤ x0 *ℤ v1) v v0 v1 (b -ℤ a) r u s.moment s.den
    s.units s.here s.first s.last bend.most (chord_at_most x0 v0 x1 v1 u a b s.first end last first) wide

pub steep_gain : (k n e g u c h s : ℤ) → pos 0 <ℤ e → pos 0 ≤ℤ u → pos 0 ≤ℤ n → pos 0 ≤ℤ h
    → (c *ℤ (e *ℤ k)) ≤ℤ (pos 2 *ℤ ((n *ℤ g) *ℤ h)) → ((pos 2 *ℤ g) *ℤ u) ≤ℤ (s *ℤ e)
    → ((c *ℤ k) *ℤ u) ≤ℤ (s *ℤ (n *ℤ h))
steep_gain k n e g u c h s e0 u0 n0 h0 near wide =
    let a =
    simp laid_out at (nonneg_product (pos 2 *ℤ ((n *ℤ g) *ℤ h) -ℤ c *ℤ (e *ℤ k)) u
    (omega (arith, sums, near)) u0) in
    let b = simp laid_out at (nonneg_product (n *ℤ h) (s *ℤ e -ℤ (pos 2 *ℤ g) *ℤ u) (nonneg_product n h n0 h0)
    (omega (arith, sums, wide))) in
    cancel ((c *ℤ k) *ℤ u) (s *ℤ (n *ℤ h)) e e0 (simp laid_out (omega (arith, sums, a, b)))
