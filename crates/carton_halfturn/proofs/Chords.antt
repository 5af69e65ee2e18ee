-- How far a value of the pair (d, p) leaves its chord.
use Rattle.std.proofs.Common.{◌≡◌, ℤ, pos, ◌+ℤ◌, ◌-ℤ◌, ◌*ℤ◌, neg_ℤ, ◌≤ℤ◌, arith, ap, ◌∙◌}
use Rattle.std.proofs.lemmas.Int.{ints, by_lt_z}
use Rattle.carton_base.proofs.Polynomials.{laid_out, sums, nonneg_product, nonneg_square}
use Rattle.carton_halfturn.proofs.Forms.{pair_value, pair_squares, times_one}

below_scaled : (a q z h : ℤ) → pos 0 ≤ℤ a → a ≤ℤ q → pos 0 ≤ℤ h → (q *ℤ z) ≤ℤ h → (a *ℤ z) ≤ℤ h
below_scaled a q z h a0 aq h0 qz = by_lt_z z (pos 0)
    (λ s. let m = simp laid_out at (nonneg_product a (neg_ℤ z) a0 (omega (arith, sums))) in
    omega (arith, ints, m))
    (λ s. let m = simp laid_out at (nonneg_product (q -ℤ a) z (omega (arith, sums)) s) in
    omega (arith, ints, m))

larger_product : (a b c e : ℤ) → pos 0 ≤ℤ a → pos 0 ≤ℤ e → a ≤ℤ b → c ≤ℤ e → (a *ℤ c) ≤ℤ (b *ℤ e)
larger_product a b c e a0 e0 ab ce =
    let x = simp laid_out at (nonneg_product (b -ℤ a) e (omega (arith, sums)) e0) in
    let y = simp laid_out at (nonneg_product a (e -ℤ c) a0 (omega (arith, sums))) in
    omega (arith, ints, x, y)

-- the product of two numbers whose squares are at most h
mean_within : (q m h : ℤ) → (q *ℤ q) ≤ℤ h → (m *ℤ m) ≤ℤ h → (q *ℤ m) ≤ℤ h
mean_within q m h qh mh = let a = simp laid_out at (nonneg_square (q -ℤ m)) in omega (arith, ints, a)

-- the value x / v at the moment n / k leaves the chord from x0 / v0 to x1 / v1 by at most 2 * n / k * (g / e)
-- * (g / e)
pub record Bend (k n e g x v x0 v0 x1 v1 : ℤ) : Type 0 where
  pub most : ((((x *ℤ v0 -ℤ x0 *ℤ v) *ℤ k) *ℤ v1 -ℤ ((x1 *ℤ v0 -ℤ x0 *ℤ v1) *ℤ n) *ℤ v) *ℤ (e *ℤ e))
      ≤ℤ ((pos 2 *ℤ (n *ℤ (g *ℤ g))) *ℤ (v *ℤ (v0 *ℤ v1)))

gathered : (d k n g u w v v1 : ℤ) → ((pos 2 *ℤ (d *ℤ ((n *ℤ g) *ℤ u))) *ℤ k) *ℤ v1
    -ℤ ((pos 2 *ℤ (d *ℤ ((k *ℤ g) *ℤ w))) *ℤ n) *ℤ v
    ≡ (pos 2 *ℤ (n *ℤ (k *ℤ (d *ℤ g)))) *ℤ (u *ℤ v1 -ℤ w *ℤ v)
gathered d k n g u w v v1 = simp laid_out (omega (arith, sums))

regrouped : (e k n g m : ℤ) → let d = e *ℤ k in
    ((pos 2 *ℤ (n *ℤ (k *ℤ (d *ℤ g)))) *ℤ (((k -ℤ n) *ℤ g) *ℤ m)) *ℤ (e *ℤ e)
    ≡ (pos 2 *ℤ (n *ℤ (g *ℤ g))) *ℤ ((d *ℤ (d *ℤ (e *ℤ (k -ℤ n)))) *ℤ m)
regrouped e k n g m = simp laid_out (omega (arith, sums))

-- what the two chords and the third difference of a curve say together
bends : (e k n g x v x0 v0 x1 v1 m u w : ℤ) → let d = e *ℤ k in
    x *ℤ v0 -ℤ x0 *ℤ v ≡ pos 2 *ℤ (d *ℤ ((n *ℤ g) *ℤ u)) → x1 *ℤ v0 -ℤ x0 *ℤ v1
    ≡ pos 2 *ℤ (d *ℤ ((k *ℤ g) *ℤ w))
    → u *ℤ v1 -ℤ w *ℤ v ≡ ((k -ℤ n) *ℤ g) *ℤ m → ((d *ℤ (d *ℤ d)) *ℤ m) ≤ℤ (v *ℤ (v0 *ℤ v1))
    → pos 0 ≤ℤ (v *ℤ (v0 *ℤ v1))
    → pos 0 ≤ℤ e → pos 0 ≤ℤ n → n ≤ℤ k → Bend k n e g x v x0 v0 x1 v1
bends e k n g x v x0 v0 x1 v1 m u w one two three close h0 e0 n0 nk =
    let d : ℤ = e *ℤ k in
    let h : ℤ = v *ℤ (v0 *ℤ v1) in
    let d0 : pos 0 ≤ℤ d = nonneg_product e k e0 (omega (arith, sums)) in
    let part : ℤ = d *ℤ (d *ℤ (e *ℤ (k -ℤ n))) in
    let dd0 = nonneg_product d d d0 d0 in
    let rest = nonneg_product e (k -ℤ n) e0 (omega (arith, sums)) in
    let part0 : pos 0 ≤ℤ part =
    nonneg_product d (d *ℤ (e *ℤ (k -ℤ n))) d0 (nonneg_product d (e *ℤ (k -ℤ n)) d0 rest) in
    let gone = simp laid_out at (nonneg_product (d *ℤ d) (e *ℤ n) dd0 (nonneg_product e n e0 n0)) in
    let most : part ≤ℤ (d *ℤ (d *ℤ d)) = simp laid_out (omega (arith, sums, gone)) in
    let scaled = below_scaled part (d *ℤ (d *ℤ d)) m h part0 most h0 close in
    let f : ℤ = pos 2 *ℤ (n *ℤ (g *ℤ g)) in
    let f0 : pos 0 ≤ℤ f = let q = nonneg_product n (g *ℤ g) n0 (nonneg_square g) in omega (arith, ints, q) in
    let same : (((x *ℤ v0 -ℤ x0 *ℤ v) *ℤ k) *ℤ v1 -ℤ ((x1 *ℤ v0 -ℤ x0 *ℤ v1) *ℤ n) *ℤ v) *ℤ (e *ℤ e)
    ≡ f *ℤ (part *ℤ m) =
    (λ i. ((one i *ℤ k) *ℤ v1 -ℤ (two i *ℤ n) *ℤ v) *ℤ (e *ℤ e))
    ∙ ap (λ z. z *ℤ (e *ℤ e)) (gathered d k n g u w v v1)
    ∙ ap (λ z. ((pos 2 *ℤ (n *ℤ (k *ℤ (d *ℤ g)))) *ℤ z) *ℤ (e *ℤ e)) three ∙ regrouped e k n g m in
    record { most = rw same (larger_product f f (part *ℤ m) h f0 h0 (omega (arith, ints)) scaled) }

-- the real and the imaginary part of (d + pi)(d + qi)(d + ri) over d and over 1, and both in one
abbrev real : ℤ → ℤ → ℤ → ℤ → ℤ
real p q r d = d *ℤ d -ℤ (p *ℤ q +ℤ q *ℤ r +ℤ r *ℤ p)

abbrev imaginary : ℤ → ℤ → ℤ → ℤ → ℤ
imaginary p q r d = (d *ℤ d) *ℤ (p +ℤ q +ℤ r) -ℤ p *ℤ (q *ℤ r)

abbrev lean : ℤ → ℤ → ℤ → ℤ → ℤ → ℤ
lean a b p q d = b *ℤ (d *ℤ d -ℤ p *ℤ q) -ℤ a *ℤ (d *ℤ (p +ℤ q))

abbrev twist : ℤ → ℤ → ℤ → ℤ → ℤ → ℤ → ℤ
twist a b p q r d = b *ℤ imaginary p q r d +ℤ a *ℤ (d *ℤ real p q r d)

chord : (a b p q d : ℤ) → pair_value a b d p *ℤ pair_squares d q -ℤ pair_value a b d q *ℤ pair_squares d p
    ≡ pos 2 *ℤ (d *ℤ ((p -ℤ q) *ℤ lean a b p q d))
chord a b p q d = simp laid_out (omega (arith, sums))

chords_bend : (a b p q r d : ℤ) → lean a b p q d *ℤ pair_squares d r -ℤ lean a b r q d *ℤ pair_squares d p
    ≡ (r -ℤ p) *ℤ twist a b p q r d
chords_bend a b p q r d = simp laid_out (omega (arith, sums))

modulus : (p q r d : ℤ) → pair_squares d p *ℤ (pair_squares d q *ℤ pair_squares d r)
    ≡ (d *ℤ real p q r d) *ℤ (d *ℤ real p q r d) +ℤ imaginary p q r d *ℤ imaginary p q r d
modulus p q r d = simp laid_out (omega (arith, sums))

cubes : (d : ℤ) → (d *ℤ (d *ℤ d)) *ℤ (d *ℤ (d *ℤ d)) ≡ (d *ℤ d) *ℤ ((d *ℤ d) *ℤ (d *ℤ d))
cubes d = simp laid_out

in_unit : (a b x y : ℤ) → a *ℤ a +ℤ b *ℤ b ≡ pos 1
    → ((b *ℤ x +ℤ a *ℤ y) *ℤ (b *ℤ x +ℤ a *ℤ y)) ≤ℤ (y *ℤ y +ℤ x *ℤ x)
in_unit a b x y one =
    let s = simp laid_out at (nonneg_square (a *ℤ x -ℤ b *ℤ y)) in
    let u = simp laid_out at (times_one (a *ℤ a +ℤ b *ℤ b) (y *ℤ y +ℤ x *ℤ x) one) in
    simp laid_out (omega (arith, sums, s, u))

record Close (a b p q r d h : ℤ) : Type 0 where
  some : pos 0 ≤ℤ h
  most : ((d *ℤ (d *ℤ d)) *ℤ twist a b p q r d) ≤ℤ h

close : (a b p q r d : ℤ) → a *ℤ a +ℤ b *ℤ b ≡ pos 1
    → Close a b p q r d (pair_squares d p *ℤ (pair_squares d q *ℤ pair_squares d r))
close a b p q r d one =
    let u = pair_squares d p in
    let v = pair_squares d q in
    let w = pair_squares d r in
    let dd = nonneg_square d in
    let over : (z : ℤ) → (d *ℤ d) ≤ℤ pair_squares d z = λ z. let s = nonneg_square z in
    omega (arith, sums, s) in
    let vw0 : pos 0 ≤ℤ (v *ℤ w) =
    nonneg_product v w (omega (arith, sums, over q, dd)) (omega (arith, sums, over r, dd)) in
    let h0 : pos 0 ≤ℤ (u *ℤ (v *ℤ w)) = nonneg_product u (v *ℤ w) (omega (arith, sums, over p, dd)) vw0 in
    let two : ((d *ℤ d) *ℤ (d *ℤ d)) ≤ℤ (v *ℤ w) =
    larger_product (d *ℤ d) v (d *ℤ d) w dd (omega (arith, sums, over r, dd)) (over q) (over r) in
    let six : ((d *ℤ (d *ℤ d)) *ℤ (d *ℤ (d *ℤ d))) ≤ℤ (u *ℤ (v *ℤ w)) =
    rw (cubes d) (larger_product (d *ℤ d) u ((d *ℤ d) *ℤ (d *ℤ d)) (v *ℤ w) dd vw0 (over p) two) in
    record {
      some = h0;
      most = mean_within (d *ℤ (d *ℤ d)) (twist a b p q r d) (u *ℤ (v *ℤ w)) six
          (rw (modulus p q r d) (in_unit a b (imaginary p q r d) (d *ℤ real p q r d) one));
    }

-- the folds q, p and r over d = ek: the first end, the moment n / k and the last end
pub record Steps (k n g q p r : ℤ) : Type 0 where
  pub so_far : p -ℤ q ≡ n *ℤ g
  pub whole : r -ℤ q ≡ k *ℤ g

left : (k n g q p r : ℤ) → Steps k n g q p r → r -ℤ p ≡ (k -ℤ n) *ℤ g
left k n g q p r s = simp laid_out (let a = s.so_far in let b = s.whole in omega (arith, ints, a, b))

pub bend_of : (a b e k n g q p r : ℤ) → a *ℤ a +ℤ b *ℤ b ≡ pos 1 → Steps k n g q p r → pos 0 ≤ℤ e → pos 0 ≤ℤ n
    → n ≤ℤ k → let d = e *ℤ k in
    Bend k n e g (pair_value a b d p) (pair_squares d p) (pair_value a b d q) (pair_squares d q)
    (pair_value a b d r) (pair_squares d r)
bend_of a b e k n g q p r one s e0 n0 nk =
    let d : ℤ = e *ℤ k in
    let c = close a b p q r d one in
    bends e k n g (pair_value a b d p) (pair_squares d p) (pair_value a b d q) (pair_squares d q)
    (pair_value a b d r) (pair_squares d r) (twist a b p q r d) (lean a b p q d) (lean a b r q d)
    (chord a b p q d ∙ ap (λ z. pos 2 *ℤ (d *ℤ (z *ℤ lean a b p q d))) s.so_far)
    (chord a b r q d ∙ ap (λ z. pos 2 *ℤ (d *ℤ (z *ℤ lean a b r q d))) s.whole)
    (chords_bend a b p q r d ∙ ap (λ z. z *ℤ twist a b p q r d) (left k n g q p r s))
    c.most c.some e0 n0 nk
