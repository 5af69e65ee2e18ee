-- Bounds at the right folds of a range enclose a value at every fold of it.
use Rattle.std.proofs.Common.{◌≡◌, ℕ, ◌*◌, ◌≤◌, ◌<◌, subst, ℤ, pos, neg_ℤ, ◌-ℤ◌, ◌*ℤ◌}
use Rattle.std.proofs.Common.{◌≤ℤ◌, unsigned_abs, arith}
use Rattle.std.proofs.lemmas.Int.{ints}
use Rattle.carton_base.specs.Rounding.{unit, IsBetween}
use Rattle.carton_base.specs.Fractions.{IsRounded}
use Rattle.carton_base.specs.Moments.{IsMoment}
use Rattle.carton_base.specs.declared.numbers.Bounds.{Bounds}
use Rattle.carton_base.proofs.Products.{mul_neg_right}
use Rattle.carton_model.specs.HalfTurns.{square_sum, moving}
use Rattle.carton_halfturn.specs.declared.folds.Fold.{Fold}
use Rattle.carton_halfturn.specs.declared.ranges.Range.{Range}
use Rattle.carton_halfturn.specs.declared.spans.FoldSpan.{FoldSpan}
use Rattle.carton_halfturn.specs.Spans.{IsRangeOf, IsNarrow}
use Rattle.carton_base.proofs.Polynomials.{cancel, positive_product}
use Rattle.carton_halfturn.proofs.Forms.{Form, turned, turned_form, squares, squares_positive, steep_at}
use Rattle.carton_halfturn.proofs.Forms.{other_sign}
use Rattle.carton_halfturn.proofs.Peaks.{IsPeak, parts_within, scaled_le, moving_above, moving_below}
use Rattle.carton_halfturn.proofs.Scaling.{scaled_most}
use Rattle.carton_halfturn.proofs.Roundings.{over_holds, spread_holds, spread_within}

pub positive_den : (e k : ℕ) → 0 < e → 0 < k → 0 < e * k
positive_den e k p q = let m = positive_product (pos e) (pos k) (omega (arith, ints, p))
    (omega (arith, ints, q)) in omega (arith, ints, m)

pub scaled_within : (a : ℤ) (e d : ℕ) → 0 < d → unsigned_abs a ≤ 2 * e → unsigned_abs (a *ℤ pos d)
    ≤ 2 * (e * d)
scaled_within a e d d0 w =
    let p = scaled_le a (pos (2 * e)) (pos d) (omega (arith, ints, d0)) (omega (arith, ints, w)) in
    let q = scaled_le (neg_ℤ a) (pos (2 * e)) (pos d) (omega (arith, ints, d0)) (omega (arith, ints, w)) in
    let m : neg_ℤ a *ℤ pos d ≡ neg_ℤ (a *ℤ pos d) = mul_neg_right a (pos d) in
    omega (arith, ints, p, q, m)

pub moment_within : (s : FoldSpan) (n d : ℕ) → IsMoment n d
    → unsigned_abs (moving s.from s.to n d) ≤ 2 * (unsigned_abs s.den * d)
moment_within s n d m =
    let h : ℤ = pos (2 * unsigned_abs s.den) in
    parts_within (neg_ℤ h) h (moving s.from s.to n d) (unsigned_abs s.den) d m.some (omega (arith, ints))
    (omega (arith, ints))
    (moving_above (neg_ℤ h) s.from s.to (pos n) (pos d) (omega (arith, ints)) (omega (arith, ints, m.within))
    (omega (arith, ints, s.first)) (omega (arith, ints, s.second)))
    (moving_below h s.from s.to (pos n) (pos d) (omega (arith, ints)) (omega (arith, ints, m.within))
    (omega (arith, ints, s.first)) (omega (arith, ints, s.second)))

-- what is at least the greatest value is at least each
under_peak : (f : ℤ → ℕ → ℤ) → Form f → (low high p hi n : ℤ) (e k : ℕ) → 0 < e → 0 < k
    → unsigned_abs p ≤ 2 * e
    → IsPeak f low high e p → (low *ℤ pos k) ≤ℤ n → n ≤ℤ (high *ℤ pos k)
    → (f p e *ℤ unit) ≤ℤ (hi *ℤ squares p e) → (f n (e * k) *ℤ unit) ≤ℤ (hi *ℤ squares n (e * k))
under_peak f F low high p hi n e k e0 k0 pw peak from upto h =
    over_holds (f (p *ℤ pos k) (e * k)) (squares (p *ℤ pos k) (e * k)) (f n (e * k)) (squares n (e * k))
    unit hi
    (squares_positive (p *ℤ pos k) (e * k) (positive_den e k e0 k0) (scaled_within p e k k0 pw))
    (omega (arith, ints)) (omega (arith, ints)) (peak.greatest n k k0 from upto)
    (scaled_most f F hi p e k k0 h)

turned_back : (x y z w : ℤ) → (neg_ℤ z *ℤ w) ≤ℤ (neg_ℤ x *ℤ y) → (x *ℤ y) ≤ℤ (z *ℤ w)
turned_back x y z w h = omega (arith, ints, h, mul_neg_right x y, mul_neg_right z w)

-- ---- over a span, whose range is r
pub record Over (f : ℤ → ℕ → ℤ) (span : FoldSpan) (lo hi : ℤ) : Type 0 where
  pub encloses : (n d : ℕ) → IsMoment n d
      → IsBetween lo hi (f (moving span.from span.to n d) (unsigned_abs span.den * d)) (square_sum
      (moving span.from span.to n d) (unsigned_abs span.den * d))
  pub ordered : lo ≤ℤ hi
  pub spread : IsNarrow span lo hi

pub over_span : (f : ℤ → ℕ → ℤ) → Form f
    → (span : FoldSpan) (r : Range) (top bottom : Fold) (low high : Bounds)
    → IsRangeOf span r.low r.high r.den → top.den ≡ r.den → bottom.den ≡ r.den
    → IsPeak f r.low r.high (unsigned_abs r.den) top.num
    → IsPeak (turned f) r.low r.high (unsigned_abs r.den) bottom.num
    → IsRounded (f bottom.num (unsigned_abs bottom.den)) (square_sum bottom.num (unsigned_abs bottom.den))
    low.lo low.hi
    → IsRounded (f top.num (unsigned_abs top.den)) (square_sum top.num (unsigned_abs top.den)) high.lo high.hi
    → Over f span low.lo high.hi
over_span f F span r top bottom low high is td bd peak trough l h =
    let e : ℕ = unsigned_abs r.den in
    let e0 : 0 < unsigned_abs r.den = omega (arith, ints, r.positive) in
    let tw : unsigned_abs top.num ≤ 2 * unsigned_abs r.den = rw td at top.within in
    let bw : unsigned_abs bottom.num ≤ 2 * unsigned_abs r.den = rw bd at bottom.within in
    let lower = rw bd at l in
    let upper = rw td at h in
    let near = steep_at f F top.num bottom.num (r.high -ℤ r.low) e e0 tw bw
    (omega (arith, ints, peak.upto, trough.from)) (omega (arith, ints, trough.upto, peak.from)) in
    let wide = spread_holds (f top.num e) (squares top.num e) (f bottom.num e) (squares bottom.num e) unit
    (pos e)
    (r.high -ℤ r.low) low.lo high.hi (squares_positive top.num e e0 tw) (squares_positive bottom.num e e0 bw)
    (omega (arith, ints)) (omega (arith, ints)) near upper.up lower.down in
    let all : (n d : ℕ) → IsMoment n d
    → IsBetween low.lo high.hi (f (moving span.from span.to n d) (unsigned_abs span.den * d)) (square_sum
    (moving span.from span.to n d) (unsigned_abs span.den * d)) = λ n d m.
    let t : ℤ = moving span.from span.to n d in
    let from = moving_above r.low span.from span.to (pos n) (pos d) (omega (arith, ints))
    (omega (arith, ints, m.within)) is.from_low is.to_low in
    let upto = moving_below r.high span.from span.to (pos n) (pos d) (omega (arith, ints))
    (omega (arith, ints, m.within)) is.from_high is.to_high in
    subst (λ y. IsBetween low.lo high.hi (f (moving span.from span.to n d) (unsigned_abs y * d))
    (square_sum (moving span.from span.to n d) (unsigned_abs y * d))) is.den record {
      from = turned_back low.lo (squares t (e * d)) (f t (e * d)) unit
          (under_peak (turned f) (turned_form f F) r.low r.high bottom.num (neg_ℤ low.lo) t e d e0 m.some bw
          trough from upto (other_sign low.lo (squares bottom.num e) (f bottom.num e) unit lower.down.below));
      upto = under_peak f F r.low r.high top.num high.hi t e d e0 m.some tw peak from upto upper.up.above;
    } in
    let m : IsMoment 0 1 = record { within = omega arith; some = omega arith } in
    let s = all 0 1 m in
    let v = squares_positive (moving span.from span.to 0 1) (unsigned_abs span.den * 1)
    (positive_den (unsigned_abs span.den) 1 (omega (arith, ints, span.positive)) (omega arith))
    (moment_within span 0 1 m) in
    record {
      encloses = all;
      ordered = cancel low.lo high.hi (squares (moving span.from span.to 0 1) (unsigned_abs span.den * 1)) v
          (let a = s.from in let b = s.upto in omega (arith, ints, a, b));
      spread = spread_within low.lo high.hi span.den (r.high -ℤ r.low) (unsigned_abs (span.to -ℤ span.from))
          span.positive is.short (rw is.den at wide);
    }
