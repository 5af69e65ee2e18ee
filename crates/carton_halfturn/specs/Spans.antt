-- Folds that go evenly from one end to another.
use Rattle.std.specs.Prelude.{◌≡◌, ◌⊎◌, ℕ, ◌*◌, ◌≤◌, ℤ, pos, negsuc, neg_ℤ, ◌+ℤ◌, ◌-ℤ◌, ◌*ℤ◌, ◌≤ℤ◌}
use Rattle.std.specs.Prelude.{unsigned_abs}
use Rattle.carton_base.specs.Rounding.{unit, IsBetween}
use Rattle.carton_base.specs.Moments.{IsMoment}
use Rattle.carton_model.specs.HalfTurns.{cosine, sine, square_sum, moving, Leads}
use Rattle.carton_halfturn.specs.declared.spans.FoldSpan.{FoldSpan}

-- the fold of the span at the moment n / d is fold_num over fold_den
abbrev pub fold_num : FoldSpan → ℕ → ℕ → ℤ
fold_num f n d = moving f.from f.to n d

abbrev pub fold_den : FoldSpan → ℕ → ℕ
fold_den f d = unsigned_abs f.den * d

-- cosine, sine and their denominator at the moment n / d of the span
abbrev pub cosine_at : FoldSpan → ℕ → ℕ → ℤ
cosine_at f n d = cosine (fold_num f n d) (fold_den f d)

abbrev pub sine_at : FoldSpan → ℕ → ℕ → ℤ
sine_at f n d = sine (fold_num f n d) (fold_den f d)

abbrev pub squares_at : FoldSpan → ℕ → ℕ → ℕ
squares_at f n d = square_sum (fold_num f n d) (fold_den f d)

-- the bounds enclose the cosine, or the sine, at every moment of the span
abbrev pub EnclosesCosine : FoldSpan → ℤ → ℤ → Type 0
EnclosesCosine f lo hi = (n d : ℕ) → IsMoment n d → IsBetween lo hi (cosine_at f n d) (squares_at f n d)

abbrev pub EnclosesSine : FoldSpan → ℤ → ℤ → Type 0
EnclosesSine f lo hi = (n d : ℕ) → IsMoment n d → IsBetween lo hi (sine_at f n d) (squares_at f n d)

-- at every moment t the cosine, or the sine, is that of the first end and t times some number within the
-- bounds
abbrev pub LeadsCosine : FoldSpan → ℤ → ℤ → Type 0
LeadsCosine f lo hi = let e = unsigned_abs f.den in
    (n d : ℕ) → IsMoment n d
    → Leads lo hi (cosine f.from e) (square_sum f.from e) n d (cosine_at f n d) (squares_at f n d)

abbrev pub LeadsSine : FoldSpan → ℤ → ℤ → Type 0
LeadsSine f lo hi = let e = unsigned_abs f.den in
    (n d : ℕ) → IsMoment n d
    → Leads lo hi (sine f.from e) (square_sum f.from e) n d (sine_at f n d) (squares_at f n d)

-- both ends lie from one fold to another
pub record Within (f : FoldSpan) (low high : ℤ) : Type 0 where
  pub from_low : low ≤ℤ f.from
  pub from_high : f.from ≤ℤ high
  pub to_low : low ≤ℤ f.to
  pub to_high : f.to ≤ℤ high

-- both ends lie from k to k + 1 right angles
abbrev pub InStretch : FoldSpan → ℤ → Type 0
InStretch f k = Within f (k *ℤ f.den) ((k +ℤ pos 1) *ℤ f.den)

-- both ends lie in one of the four stretches of a right angle
abbrev pub InOneStretch : FoldSpan → Type 0
InOneStretch f = InStretch f (negsuc 1) ⊎ InStretch f (negsuc 0) ⊎ InStretch f (pos 0) ⊎ InStretch f (pos 1)

-- low / d and high / d are the least and the greatest fold of the span
pub record IsRangeOf (f : FoldSpan) (low high d : ℤ) : Type 0 where
  pub from_low : low ≤ℤ f.from
  pub from_high : f.from ≤ℤ high
  pub to_low : low ≤ℤ f.to
  pub to_high : f.to ≤ℤ high
  pub short : (high -ℤ low) ≤ℤ pos (unsigned_abs (f.to -ℤ f.from))
  pub den : d ≡ f.den

-- the spread of bounds of cosine or sine: 2 * |to - from| / den and two units
abbrev pub IsNarrow : FoldSpan → ℤ → ℤ → Type 0
IsNarrow f lo hi =
    ((hi -ℤ lo) *ℤ f.den) ≤ℤ (pos (2 * unsigned_abs (f.to -ℤ f.from)) *ℤ unit +ℤ pos 2 *ℤ f.den)

-- both ends lie within a right angle, or both lie past it the same way
abbrev pub IsOneWay : FoldSpan → Type 0
IsOneWay f = Within f (neg_ℤ f.den) f.den ⊎ Within f f.den (f.den +ℤ f.den)
    ⊎ Within f (neg_ℤ (f.den +ℤ f.den)) (neg_ℤ f.den)

-- both ends so lie, and the fold changes by at most a right angle
pub record IsSmooth (f : FoldSpan) : Type 0 where
  pub near : unsigned_abs (f.to -ℤ f.from) ≤ unsigned_abs f.den
  pub one_way : IsOneWay f

-- the same said of the least and the greatest fold, low / d and high / d
pub record IsEven (low high d : ℤ) : Type 0 where
  pub near : (high -ℤ low) ≤ℤ d
  pub side : (d ≤ℤ low) ⊎ (high ≤ℤ neg_ℤ d) ⊎ ((neg_ℤ d ≤ℤ low) × (high ≤ℤ d))
