-- The rates of a value along a span.
use Rattle.std.proofs.Common.{◌≡◌, ℕ, zero, suc, ◌*◌, ◌<◌, ◌^◌, refl, ℤ, pos, neg_ℤ, ◌+ℤ◌, ◌-ℤ◌, ◌*ℤ◌}
use Rattle.std.proofs.Common.{◌≤ℤ◌, ◌<ℤ◌, unsigned_abs, arith, ap, ◌∙◌, inl, inr}
use Rattle.std.proofs.lemmas.Int.{ints}
use Rattle.carton_base.specs.Rounding.{unit}
use Rattle.carton_base.specs.Moments.{IsMoment}
use Rattle.carton_base.proofs.Products.{mul_neg_right}
use Rattle.carton_model.specs.HalfTurns.{moving, Leads}
use Rattle.carton_halfturn.specs.declared.spans.FoldSpan.{FoldSpan}
use Rattle.carton_halfturn.specs.Spans.{Within, IsOneWay}
use Rattle.carton_base.proofs.Polynomials.{laid_out, sums}
use Rattle.carton_halfturn.proofs.HalfPairs.{Halves, half_middle, half_over, half_under, square_sum_is}
use Rattle.carton_halfturn.proofs.Forms.{Form, pair_value, pair_squares, squares, turned_one}
use Rattle.carton_halfturn.proofs.Chords.{Bend, Steps, bend_of}
use Rattle.carton_halfturn.proofs.Enclosing.{positive_den}
use Rattle.carton_halfturn.proofs.Peaks.{scaled_le, moving_above, moving_below}

-- ---- the gain in fractions
reached : (a w n d x v x0 v0 : ℤ) → a *ℤ v0 ≡ x0 *ℤ w → x *ℤ (w *ℤ (d *ℤ (n *ℤ (v0 *ℤ v))))
    ≡ (a *ℤ (d *ℤ (n *ℤ (v0 *ℤ v))) +ℤ ((x *ℤ v0 -ℤ x0 *ℤ v) *ℤ d) *ℤ (n *ℤ w)) *ℤ v
reached a w n d x v x0 v0 e =
    let m = simp laid_out at (ap (λ z. z *ℤ (d *ℤ (n *ℤ (v *ℤ v)))) e) in
    simp laid_out (omega (arith, sums, m))

standing : (a w d x v : ℤ) → x *ℤ w ≡ a *ℤ v → x *ℤ (w *ℤ d) ≡ (a *ℤ d) *ℤ v
standing a w d x v e =
    let m = simp laid_out at (ap (λ z. z *ℤ d) e) in
    simp laid_out (omega (arith, sums, m))

-- the gain over n / k lies from lo to hi
pub record Gains (lo hi k n u x v x0 v0 : ℤ) : Type 0 where
  pub low : (lo *ℤ (n *ℤ (v0 *ℤ v))) ≤ℤ (((x *ℤ v0 -ℤ x0 *ℤ v) *ℤ k) *ℤ u)
  pub high : (((x *ℤ v0 -ℤ x0 *ℤ v) *ℤ k) *ℤ u) ≤ℤ (hi *ℤ (n *ℤ (v0 *ℤ v)))

pub leads_from : (lo hi a : ℤ) (w n d : ℕ) (x : ℤ) (v : ℕ) (x0 : ℤ) (v0 : ℕ) → 0 < v → 0 < v0 → lo ≤ℤ hi
    → a *ℤ pos v0 ≡ x0 *ℤ pos w → (n ≡ 0 → x *ℤ pos w ≡ a *ℤ pos v)
    → Gains lo hi (pos d) (pos n) unit x (pos v) x0 (pos v0) → Leads lo hi a w n d x v
leads_from lo hi a w zero d x v x0 v0 vp v0p le same still g = record {
  rate = lo;
  over = 2 ^ 40;
  some = omega arith;
  within = record { from = omega (arith, ints); upto = omega (arith, ints, le) };
  reaches = let none : lo *ℤ pos (zero * w) ≡ pos 0 = omega (arith, ints) in
      standing a (pos w) (pos (d * 2 ^ 40)) x (pos v) (still refl)
      ∙ ap (λ z. z *ℤ pos v) (omega (arith, ints, none));
}
leads_from lo hi a w (suc n) d x v x0 v0 vp v0p le same still g = record {
  rate = (x *ℤ pos v0 -ℤ x0 *ℤ pos v) *ℤ pos d;
  over = suc n * (v0 * v);
  some = positive_den (suc n) (v0 * v) (omega arith) (positive_den v0 v v0p vp);
  within = record { from = g.low; upto = g.high };
  reaches = reached a (pos w) (pos (suc n)) (pos d) x (pos v) x0 (pos v0) same;
}

-- ---- smooth spans
-- a value, or the sum of the squares, at a moment of the span and at its ends, all over the same parts
abbrev pub here : (ℤ → ℕ → ℤ) → FoldSpan → ℕ → ℕ → ℤ
here f s n d = f (moving s.from s.to n d) (unsigned_abs s.den * d)

abbrev pub start : (ℤ → ℕ → ℤ) → FoldSpan → ℕ → ℤ
start f s d = f (s.from *ℤ pos d) (unsigned_abs s.den * d)

abbrev pub end : (ℤ → ℕ → ℤ) → FoldSpan → ℕ → ℤ
end f s d = f (s.to *ℤ pos d) (unsigned_abs s.den * d)

abbrev pub Bends : (ℤ → ℕ → ℤ) → FoldSpan → ℕ → ℕ → Type 0
Bends f s n d =
    Bend (pos d) (pos n) (pos (unsigned_abs s.den)) (s.to -ℤ s.from) (here f s n d) (here squares s n d)
    (start f s d) (start squares s d) (end f s d) (end squares s d)

-- a value in a stretch where the half pair is that of p, or turned by a right angle
record Shifted (f : ℤ → ℕ → ℤ) (a b n : ℤ) (d : ℕ) (p : ℤ) : Type 0 where
  value : f n d ≡ pair_value a b (pos d) p
  squares_is : squares n d ≡ pair_squares (pos d) p

shifted : (f : ℤ → ℕ → ℤ) (F : Form f) (n : ℤ) (d : ℕ) (c s a b p : ℤ) → Halves n d c s
    → pair_value F.a F.b c s ≡ pair_value a b (pos d) p → pair_squares c s ≡ pair_squares (pos d) p
    → Shifted f a b n d p
shifted f F n d c s a b p k e q = record {
  value = F.is n d ∙ (λ i. pair_value F.a F.b (k.first i) (k.second i)) ∙ e;
  squares_is = square_sum_is n d ∙ (λ i. pair_squares (k.first i) (k.second i)) ∙ q;
}

unmoved : (n : ℤ) → n ≡ n +ℤ pos 0
unmoved n = omega (arith, ints)

back : (a b n d : ℤ) → pair_value a b (d +ℤ d -ℤ n) d ≡ pair_value (neg_ℤ a) (neg_ℤ b) d (n +ℤ neg_ℤ (d +ℤ d))
back a b n d = simp laid_out (omega (arith, sums))

back_squares : (n d : ℤ) → pair_squares (d +ℤ d -ℤ n) d ≡ pair_squares d (n +ℤ neg_ℤ (d +ℤ d))
back_squares n d = simp laid_out (omega (arith, sums))

forth : (a b n d : ℤ)
    → pair_value a b (d +ℤ d +ℤ n) (neg_ℤ d) ≡ pair_value (neg_ℤ a) (neg_ℤ b) d (n +ℤ (d +ℤ d))
forth a b n d = simp laid_out (omega (arith, sums))

forth_squares : (n d : ℤ) → pair_squares (d +ℤ d +ℤ n) (neg_ℤ d) ≡ pair_squares d (n +ℤ (d +ℤ d))
forth_squares n d = simp laid_out (omega (arith, sums))

steps : (a b n k o : ℤ) → Steps k n (b -ℤ a) (a *ℤ k +ℤ o) (a *ℤ k +ℤ (b -ℤ a) *ℤ n +ℤ o) (b *ℤ k +ℤ o)
steps a b n k o =
    record { so_far = simp laid_out (omega (arith, sums)); whole = simp laid_out (omega (arith, sums)) }

in_stretch : (f : ℤ → ℕ → ℤ) (s : FoldSpan) (n d : ℕ) → IsMoment n d → (low high a b o : ℤ)
    → a *ℤ a +ℤ b *ℤ b ≡ pos 1 → Within s low high
    → ((t : ℤ) → (low *ℤ pos d) ≤ℤ t → t ≤ℤ (high *ℤ pos d)
    → Shifted f a b t (unsigned_abs s.den * d) (t +ℤ o)) → Bends f s n d
in_stretch f s n d m low high a b o one w at =
    let d0 : pos 0 <ℤ pos d = omega (arith, ints, m.some) in
    let nd : pos n ≤ℤ pos d = omega (arith, ints, m.within) in
    let n0 : pos 0 ≤ℤ pos n = omega (arith, ints) in
    let x = at (moving s.from s.to n d)
    (moving_above low s.from s.to (pos n) (pos d) n0 nd w.from_low w.to_low)
    (moving_below high s.from s.to (pos n) (pos d) n0 nd w.from_high w.to_high) in
    let y = at (s.from *ℤ pos d) (scaled_le low s.from (pos d) d0 w.from_low)
    (scaled_le s.from high (pos d) d0 w.from_high) in
    let z = at (s.to *ℤ pos d) (scaled_le low s.to (pos d) d0 w.to_low)
    (scaled_le s.to high (pos d) d0 w.to_high) in
    rw (x.value, x.squares_is, y.value, y.squares_is, z.value, z.squares_is)
    (bend_of a b (pos (unsigned_abs s.den)) (pos d) (pos n) (s.to -ℤ s.from) (s.from *ℤ pos d +ℤ o)
    (moving s.from s.to n d +ℤ o) (s.to *ℤ pos d +ℤ o) one (steps s.from s.to (pos n) (pos d) o)
    (omega (arith, ints)) n0 nd)

scaled_den : (s : FoldSpan) (d : ℕ) → s.den *ℤ pos d ≡ pos (unsigned_abs s.den * d)
scaled_den s d = let e : s.den ≡ pos (unsigned_abs s.den) = omega (arith, ints, s.positive) in
    ap (λ z. z *ℤ pos d) e

pub bends : (f : ℤ → ℕ → ℤ) → Form f → (s : FoldSpan) (n d : ℕ) → IsMoment n d → IsOneWay s → Bends f s n d
bends f F s n d m (inl w) =
    let e = scaled_den s d in
    in_stretch f s n d m (neg_ℤ s.den) s.den F.a F.b (pos 0) F.one w
    (λ t low high. let k = half_middle t (unsigned_abs s.den * d)
    (omega (arith, ints, low, high, e, mul_neg_right s.den (pos d))) in
    shifted f F t (unsigned_abs s.den * d) _ _ F.a F.b (t +ℤ pos 0) k
    (ap (λ z. pair_value F.a F.b (pos (unsigned_abs s.den * d)) z) (unmoved t))
    (ap (λ z. pair_squares (pos (unsigned_abs s.den * d)) z) (unmoved t)))
bends f F s n d m (inr (inl w)) =
    let e = scaled_den s d in
    let c : ℕ = unsigned_abs s.den * d in
    in_stretch f s n d m s.den (s.den +ℤ s.den) (neg_ℤ F.a) (neg_ℤ F.b) (neg_ℤ (pos c +ℤ pos c))
    (turned_one F.a F.b F.one) w
    (λ t low high. shifted f F t c _ _ (neg_ℤ F.a) (neg_ℤ F.b) (t +ℤ neg_ℤ (pos c +ℤ pos c))
    (half_over t c (omega (arith, ints, low, e))) (back F.a F.b t (pos c)) (back_squares t (pos c)))
bends f F s n d m (inr (inr w)) =
    let e = scaled_den s d in
    let c : ℕ = unsigned_abs s.den * d in
    in_stretch f s n d m (neg_ℤ (s.den +ℤ s.den)) (neg_ℤ s.den) (neg_ℤ F.a) (neg_ℤ F.b) (pos c +ℤ pos c)
    (turned_one F.a F.b F.one) w
    (λ t low high. shifted f F t c _ _ (neg_ℤ F.a) (neg_ℤ F.b) (t +ℤ (pos c +ℤ pos c))
    (half_under t c (omega (arith, ints, high, e, mul_neg_right s.den (pos d)))) (forth F.a F.b t (pos c))
    (forth_squares t (pos c)))
