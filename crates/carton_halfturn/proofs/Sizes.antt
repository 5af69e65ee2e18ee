-- How large the numbers become.
use Rattle.std.proofs.Common.{◌≡◌, ℕ, ◌*◌, ◌≤◌, ◌^◌, ℤ, pos, neg_ℤ, ◌+ℤ◌, ◌-ℤ◌, ◌*ℤ◌, ◌≤ℤ◌, ◌<ℤ◌}
use Rattle.std.proofs.Common.{unsigned_abs, arith, ap, ◌∙◌}
use Rattle.std.proofs.lemmas.Int.{ints, by_lt_z}
use Rattle.std.proofs.lemmas.Bool.Decides.{nat_tests}
use Rattle.carton_base.specs.Rounding.{IsCeil, unit}
use Rattle.carton_base.specs.Grid.{IsGrid}
use Rattle.carton_base.specs.Fractions.{IsRounded}
use Rattle.carton_base.proofs.Polynomials.{laid_out, sums, nonneg_square, nonneg_product, positive_product}
use Rattle.carton_base.proofs.Polynomials.{mul_add_left}
use Rattle.carton_base.proofs.Products.{mul_assoc_ℤ, mul_neg_right}
use Rattle.carton_model.specs.HalfTurns.{half_cosine, half_sine, cosine, sine, square_sum}
use Rattle.carton_halfturn.specs.declared.folds.Fold.{Fold}
use Rattle.carton_halfturn.specs.declared.spans.FoldSpan.{FoldSpan}
use Rattle.carton_halfturn.specs.Values.{IsValue, IsProper}
use Rattle.carton_halfturn.proofs.HalfPairs.{cosine_is, sine_is, square_sum_is}
use Rattle.carton_halfturn.proofs.Forms.{squares_positive}
use Rattle.carton_halfturn.proofs.Peaks.{moving_above, moving_below}
use Rattle.carton_halfturn.proofs.Roundings.{rounds}

proper : (c s : ℤ) → pos 0 <ℤ (c *ℤ c +ℤ s *ℤ s)
    → IsProper (c *ℤ c -ℤ s *ℤ s) (pos 2 *ℤ (c *ℤ s)) (c *ℤ c +ℤ s *ℤ s)
proper c s positive =
    let cc = nonneg_square c in
    let ss = nonneg_square s in
    let minus = simp laid_out at (nonneg_square (c -ℤ s)) in
    let plus = simp laid_out at (nonneg_square (c +ℤ s)) in
    record {
      positive = positive;
      cos_within = omega (arith, ints, cc, ss);
      sin_within = omega (arith, ints, plus, minus);
    }

pub proper_at : (f : Fold)
    → let d = unsigned_abs f.den in IsProper (cosine f.num d) (sine f.num d) (pos (square_sum f.num d))
proper_at f =
    let d = unsigned_abs f.den in
    let p = squares_positive f.num d (omega (arith, ints, f.positive)) f.within in
    rw (cosine_is f.num d, sine_is f.num d, square_sum_is f.num d)
    (proper (half_cosine f.num d) (half_sine f.num d) (rw square_sum_is at p))

-- what is said of a rounded fraction from -1 to 1
pub value_of : (x v lo hi : ℤ) → pos 0 <ℤ v → unsigned_abs x ≤ unsigned_abs v
    → IsRounded x (unsigned_abs v) lo hi → IsValue x (unsigned_abs v) lo hi
value_of x v lo hi v0 w r =
    let e : pos (unsigned_abs v) ≡ v = omega (arith, ints) in
    let k = rounds x v unit lo hi v0 (omega (arith, ints)) (omega (arith, ints, w)) (omega (arith, ints, w))
    (rw e at r.down) (rw e at r.up) in
    record {
      rounded = r;
      within = record { low = k.low; high = k.high };
      tight = omega (arith, ints, k.tight);
    }

-- a quotient rounded up
pub ceil_from : (x v r : ℤ) → pos 0 <ℤ v → pos 0 ≤ℤ x → IsCeil x v r → pos 0 ≤ℤ r
ceil_from x v r v0 x0 c = by_lt_z r (pos 0)
    (λ s. let m = simp laid_out at (nonneg_product (neg_ℤ r -ℤ pos 1) v (omega (arith, sums, s))
    (omega (arith, sums, v0))) in let a = c.above in absurd (omega (arith, ints, m, a)))
    (λ s. s)

pub ceil_upto : (x v r m : ℤ) → pos 0 <ℤ v → x ≤ℤ (m *ℤ v) → IsCeil x v r → r ≤ℤ m
ceil_upto x v r m v0 h c = by_lt_z m r
    (λ s. let k = simp laid_out at (nonneg_product (r -ℤ m -ℤ pos 1) v (omega (arith, sums, s))
    (omega (arith, sums, v0))) in let l = c.last in absurd (omega (arith, ints, k, l, h)))
    (λ s. s)

-- twice the square of a change of at most d, in squares of d
pub twice_square : (s d : ℤ) → pos 0 <ℤ d → unsigned_abs s ≤ unsigned_abs d → ((pos 2 *ℤ (s *ℤ s)) *ℤ unit)
    ≤ℤ (pos (2 ^ 41) *ℤ (d *ℤ d))
twice_square s d d0 h =
    let a = simp laid_out at (nonneg_product (d -ℤ s) (d +ℤ s) (omega (arith, ints)) (omega (arith, ints))) in
    omega (arith, ints, a)

-- twice the change of a span, in its parts
pub most_reach : (f : FoldSpan) → (pos (2 * unsigned_abs (f.to -ℤ f.from)) *ℤ unit) ≤ℤ (pos (2 ^ 43) *ℤ f.den)
most_reach f = omega (arith, ints, f.first, f.second, f.positive)

pub next_part : (s t d n : ℤ) → s *ℤ d +ℤ (t -ℤ s) *ℤ n +ℤ (t -ℤ s) ≡ s *ℤ d +ℤ (t -ℤ s) *ℤ (n +ℤ pos 1)
next_part s t d n = let one : (t -ℤ s) *ℤ (n +ℤ pos 1) ≡ (t -ℤ s) *ℤ n +ℤ (t -ℤ s) =
    mul_add_left (t -ℤ s) n (pos 1) ∙ ap (λ z. (t -ℤ s) *ℤ n +ℤ z) (omega (arith, ints)) in
    omega (arith, ints, one)

pub grid_bounds : (g : ℕ) → IsGrid g → (8 ≤ g) × (g ≤ 16)
grid_bounds g h = (grind (arith, nat_tests), grind (arith, nat_tests))

-- the numbers of a span from the stop s to the stop t of the grid g, over the piece from n / d on
pub record SpanSizes (s t d n : ℤ) (g : ℕ) : Type 0 where
  pub positive : pos 0 <ℤ (pos g *ℤ d)
  pub fine : (pos g *ℤ d) ≤ℤ pos (2 ^ 40)
  pub first : unsigned_abs (s *ℤ d +ℤ (t -ℤ s) *ℤ n) ≤ 2 * unsigned_abs (pos g *ℤ d)
  pub second : unsigned_abs (s *ℤ d +ℤ (t -ℤ s) *ℤ n +ℤ (t -ℤ s)) ≤ 2 * unsigned_abs (pos g *ℤ d)

pub span_sizes : (s t d n : ℤ) (g : ℕ) → 8 ≤ g → g ≤ 16 → unsigned_abs s ≤ 2 * g → unsigned_abs t ≤ 2 * g
    → pos 0 <ℤ d → d ≤ℤ pos (2 ^ 36) → pos 0 ≤ℤ n → n <ℤ d → SpanSizes s t d n g
span_sizes s t d n g g8 g16 sw tw d0 d1 n0 nd =
    let h : ℤ = pos (2 * g) in
    let k : h *ℤ d ≡ pos 2 *ℤ (pos g *ℤ d) = mul_assoc_ℤ (pos 2) (pos g) d in
    let positive = positive_product (pos g) d (omega (arith, ints)) d0 in
    let b =
    simp laid_out at (nonneg_product (pos 16 -ℤ pos g) d (omega (arith, ints)) (omega (arith, ints))) in
    let e = next_part s t d n in
    let a1 = moving_above (neg_ℤ h) s t n d n0 (omega (arith, ints)) (omega (arith, ints))
    (omega (arith, ints)) in
    let a2 = moving_below h s t n d n0 (omega (arith, ints)) (omega (arith, ints)) (omega (arith, ints)) in
    let b1 = moving_above (neg_ℤ h) s t (n +ℤ pos 1) d (omega (arith, ints)) (omega (arith, ints))
    (omega (arith, ints)) (omega (arith, ints)) in
    let b2 = moving_below h s t (n +ℤ pos 1) d (omega (arith, ints)) (omega (arith, ints))
    (omega (arith, ints)) (omega (arith, ints)) in
    record {
      positive = positive;
      fine = omega (arith, ints, b);
      first = within (s *ℤ d +ℤ (t -ℤ s) *ℤ n) (pos g *ℤ d) (h *ℤ d) (neg_ℤ h *ℤ d) k (mul_neg_right h d) a1
          a2 positive;
      second =
          rw e (within (s *ℤ d +ℤ (t -ℤ s) *ℤ (n +ℤ pos 1)) (pos g *ℤ d) (h *ℤ d) (neg_ℤ h *ℤ d) k
          (mul_neg_right h d) b1 b2 positive);
    }
  where
    within : (x b h l : ℤ) → h ≡ pos 2 *ℤ b → l ≡ neg_ℤ h → l ≤ℤ x → x ≤ℤ h → pos 0 <ℤ b
        → unsigned_abs x ≤ 2 * unsigned_abs b
    within x b h l e f p q b0 = omega (arith, ints)
