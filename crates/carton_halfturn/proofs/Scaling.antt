-- A fold that is written in finer parts has the same cosine and sine.
use Rattle.std.proofs.Common.{◌≡◌, ℕ, ◌*◌, ◌≤◌, ◌<◌, ap, sym, ◌∙◌, ℤ, pos, neg_ℤ, ◌+ℤ◌, ◌-ℤ◌, ◌*ℤ◌, ◌≤ℤ◌}
use Rattle.std.proofs.Common.{◌<ℤ◌, unsigned_abs, arith}
use Rattle.std.proofs.lemmas.Int.{ints, unsigned_abs-mul, by_lt_z}
use Rattle.std.proofs.Math.Nat.{mul-le-mul_left}
use Rattle.carton_base.specs.Rounding.{unit}
use Rattle.carton_model.specs.HalfTurns.{half_cosine, half_sine, cosine, sine, square_sum, moving}
use Rattle.carton_base.proofs.Polynomials.{laid_out, sums, mul_add_left, nonneg_product, nonneg_square}
use Rattle.carton_halfturn.proofs.Peaks.{scaled_lt}
use Rattle.carton_halfturn.proofs.HalfPairs.{Halves, half_middle, half_over, half_under}
use Rattle.carton_halfturn.proofs.HalfPairs.{square_sum_is}
use Rattle.carton_halfturn.proofs.Forms.{Form, pair_value, cosine_form, sine_form}

over_scaled : (d n k : ℤ) → d *ℤ k +ℤ d *ℤ k -ℤ n *ℤ k ≡ (d +ℤ d -ℤ n) *ℤ k
over_scaled d n k = simp laid_out (omega (arith, sums))

under_scaled : (d n k : ℤ) → d *ℤ k +ℤ d *ℤ k +ℤ n *ℤ k ≡ (d +ℤ d +ℤ n) *ℤ k
under_scaled d n k = simp laid_out (omega (arith, sums))

negated_scaled : (d k : ℤ) → neg_ℤ (d *ℤ k) ≡ neg_ℤ d *ℤ k
negated_scaled d k = simp laid_out (omega (arith, sums))

carried : (n : ℤ) (d k : ℕ) (c s : ℤ) → Halves n d c s → Halves (n *ℤ pos k) (d * k) (c *ℤ pos k) (s *ℤ pos k)
    → Halves (n *ℤ pos k) (d * k) (half_cosine n d *ℤ pos k) (half_sine n d *ℤ pos k)
carried n d k c s a b = record {
  first = b.first ∙ ap (λ z. z *ℤ pos k) (sym a.first);
  second = b.second ∙ ap (λ z. z *ℤ pos k) (sym a.second);
}

pub scaled_halves : (n : ℤ) (d k : ℕ) → 0 < k
    → Halves (n *ℤ pos k) (d * k) (half_cosine n d *ℤ pos k) (half_sine n d *ℤ pos k)
scaled_halves n d k p = by_lt_z (pos d) n
    (λ s. let b = half_over (n *ℤ pos k) (d * k) (omega (arith, ints, scaled_lt (pos d) n (pos k) k0 s)) in
    carried n d k _ _ (half_over n d (omega (arith, ints, s)))
    record { first = b.first ∙ over_scaled (pos d) n (pos k); second = b.second })
    (λ s. by_lt_z n (neg_ℤ (pos d))
    (λ t. let z = negated_scaled (pos d) (pos k) in
    let b = half_under (n *ℤ pos k) (d * k)
    (omega (arith, ints, z, scaled_lt n (neg_ℤ (pos d)) (pos k) k0 t)) in
    carried n d k _ _ (half_under n d (omega (arith, ints, t)))
    record { first = b.first ∙ under_scaled (pos d) n (pos k); second = b.second ∙ z })
    (λ t. let w : unsigned_abs n ≤ d = omega (arith, ints, s, t) in
    let e = unsigned_abs-mul n (pos k) in
    let m = mul-le-mul_left k w in
    carried n d k _ _ (half_middle n d w) (half_middle (n *ℤ pos k) (d * k) (omega (arith, e, m)))))
  where
    k0 : pos 0 <ℤ pos k
    k0 = omega (arith, ints, p)

scaled_value : (a b c s k : ℤ) → pair_value a b (c *ℤ k) (s *ℤ k) ≡ pair_value a b c s *ℤ (k *ℤ k)
scaled_value a b c s k = simp laid_out (omega (arith, sums))

squared_sum : (c s k : ℤ) → (c *ℤ k) *ℤ (c *ℤ k) +ℤ (s *ℤ k) *ℤ (s *ℤ k) ≡ (c *ℤ c +ℤ s *ℤ s) *ℤ (k *ℤ k)
squared_sum c s k = simp laid_out (omega (arith, sums))

pub form_scaled : (f : ℤ → ℕ → ℤ) → Form f → (n : ℤ) (d k : ℕ) → 0 < k
    → f (n *ℤ pos k) (d * k) ≡ f n d *ℤ (pos k *ℤ pos k)
form_scaled f F n d k p = let h = scaled_halves n d k p in
    F.is (n *ℤ pos k) (d * k) ∙ (λ i. pair_value F.a F.b (h.first i) (h.second i))
    ∙ scaled_value F.a F.b (half_cosine n d) (half_sine n d) (pos k)
    ∙ ap (λ z. z *ℤ (pos k *ℤ pos k)) (sym (F.is n d))

pub cosine_scaled : (n : ℤ) (d k : ℕ) → 0 < k → cosine (n *ℤ pos k) (d * k) ≡ cosine n d *ℤ (pos k *ℤ pos k)
cosine_scaled = form_scaled cosine cosine_form

pub sine_scaled : (n : ℤ) (d k : ℕ) → 0 < k → sine (n *ℤ pos k) (d * k) ≡ sine n d *ℤ (pos k *ℤ pos k)
sine_scaled = form_scaled sine sine_form

pub square_sum_scaled : (n : ℤ) (d k : ℕ) → 0 < k → pos (square_sum (n *ℤ pos k) (d * k))
    ≡ pos (square_sum n d) *ℤ (pos k *ℤ pos k)
square_sum_scaled n d k p = let h = scaled_halves n d k p in
    square_sum_is (n *ℤ pos k) (d * k) ∙ (λ i. h.first i *ℤ h.first i +ℤ h.second i *ℤ h.second i)
    ∙ squared_sum (half_cosine n d) (half_sine n d) (pos k)
    ∙ ap (λ z. z *ℤ (pos k *ℤ pos k)) (sym (square_sum_is n d))

-- what encloses a fraction encloses it when both its parts are multiplied
wider : (a x v q u : ℤ) → pos 0 ≤ℤ q → (a *ℤ v) ≤ℤ (x *ℤ u) → (a *ℤ (v *ℤ q)) ≤ℤ ((x *ℤ q) *ℤ u)
wider a x v q u q0 h =
    let m = simp laid_out at (nonneg_product (x *ℤ u -ℤ a *ℤ v) q (omega (arith, sums, h)) q0) in
    simp laid_out (omega (arith, sums, m))

wider_above : (a x v q u : ℤ) → pos 0 ≤ℤ q → (x *ℤ u) ≤ℤ (a *ℤ v) → ((x *ℤ q) *ℤ u) ≤ℤ (a *ℤ (v *ℤ q))
wider_above a x v q u q0 h =
    let m = simp laid_out at (nonneg_product (a *ℤ v -ℤ x *ℤ u) q (omega (arith, sums, h)) q0) in
    simp laid_out (omega (arith, sums, m))

pub scaled_least : (f : ℤ → ℕ → ℤ) → Form f → (lo n : ℤ) (d k : ℕ) → 0 < k
    → (lo *ℤ pos (square_sum n d)) ≤ℤ (f n d *ℤ unit)
    → (lo *ℤ pos (square_sum (n *ℤ pos k) (d * k))) ≤ℤ (f (n *ℤ pos k) (d * k) *ℤ unit)
scaled_least f F lo n d k p h = rw (form_scaled f F n d k p, square_sum_scaled n d k p)
    (wider lo (f n d) (pos (square_sum n d)) (pos k *ℤ pos k) unit (nonneg_square (pos k)) h)

pub scaled_most : (f : ℤ → ℕ → ℤ) → Form f → (hi n : ℤ) (d k : ℕ) → 0 < k
    → (f n d *ℤ unit) ≤ℤ (hi *ℤ pos (square_sum n d))
    → (f (n *ℤ pos k) (d * k) *ℤ unit) ≤ℤ (hi *ℤ pos (square_sum (n *ℤ pos k) (d * k)))
scaled_most f F hi n d k p h = rw (form_scaled f F n d k p, square_sum_scaled n d k p)
    (wider_above hi (f n d) (pos (square_sum n d)) (pos k *ℤ pos k) unit (nonneg_square (pos k)) h)

-- a moving fold at the first and at the last moment
pub at_start : (a b : ℤ) (n d : ℕ) → n ≡ 0 → moving a b n d ≡ a *ℤ pos d
at_start a b n d e = let z : (b -ℤ a) *ℤ pos n ≡ pos 0 = rw e (omega (arith, ints)) in omega (arith, ints, z)

pub at_end : (a b : ℤ) (n d : ℕ) → n ≡ d → moving a b n d ≡ b *ℤ pos d
at_end a b n d e = rw e (simp laid_out (omega (arith, sums)))

-- a span's fold at the part m / d of its piece is that of the joint at the moment n / d of the move, in w
-- times finer parts:
-- for a joint from s to t and the piece from i / w to (i + 1) / w, which has that moment at m = nw - id
pub joint_moment : (s t w i n d m : ℤ) → m ≡ n *ℤ w -ℤ i *ℤ d
    → (s *ℤ w +ℤ (t -ℤ s) *ℤ i) *ℤ d +ℤ ((s *ℤ w +ℤ (t -ℤ s) *ℤ (i +ℤ pos 1)) -ℤ (s *ℤ w +ℤ (t -ℤ s) *ℤ i))
    *ℤ m ≡ (s *ℤ d +ℤ (t -ℤ s) *ℤ n) *ℤ w
joint_moment s t w i n d m e = rw e (piece_moment s t w i n d)
  where
    one_on : (s t w i : ℤ) → (s *ℤ w +ℤ (t -ℤ s) *ℤ (i +ℤ pos 1)) -ℤ (s *ℤ w +ℤ (t -ℤ s) *ℤ i) ≡ t -ℤ s
    one_on s t w i = let m : (t -ℤ s) *ℤ (i +ℤ pos 1) ≡ (t -ℤ s) *ℤ i +ℤ (t -ℤ s) =
        mul_add_left (t -ℤ s) i (pos 1) ∙ ap (λ z. (t -ℤ s) *ℤ i +ℤ z) (omega (arith, ints)) in
        omega (arith, ints, m)

    piece_moment : (s t w i n d : ℤ)
        → (s *ℤ w +ℤ (t -ℤ s) *ℤ i) *ℤ d
        +ℤ ((s *ℤ w +ℤ (t -ℤ s) *ℤ (i +ℤ pos 1)) -ℤ (s *ℤ w +ℤ (t -ℤ s) *ℤ i)) *ℤ (n *ℤ w -ℤ i *ℤ d)
        ≡ (s *ℤ d +ℤ (t -ℤ s) *ℤ n) *ℤ w
    piece_moment s t w i n d = rw (one_on s t w i) (simp laid_out (omega (arith, sums)))
