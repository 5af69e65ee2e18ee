-- Bounds of the rate at which cosine or sine change over a span.
use Rattle.std.specs.Prelude.{◌≡◌, ◌⊎◌, ◌*◌, ◌^◌, ℤ, pos, neg_ℤ, ◌+ℤ◌, ◌-ℤ◌, ◌*ℤ◌, ◌≤ℤ◌, unsigned_abs}
use Rattle.carton_base.specs.Rounding.{IsCeil, unit}
use Rattle.carton_base.specs.declared.numbers.Bounds.{Bounds}
use Rattle.carton_halfturn.specs.declared.spans.FoldSpan.{FoldSpan}
use Rattle.carton_halfturn.specs.Spans.{IsSmooth}

-- the spread is at most 16 * ((to - from) / den)^2 and 16 units
abbrev pub IsGentle : FoldSpan → ℤ → ℤ → Type 0
IsGentle f lo hi = let step = f.to -ℤ f.from in
    ((hi -ℤ lo) *ℤ (f.den *ℤ f.den)) ≤ℤ ((pos 16 *ℤ (step *ℤ step)) *ℤ unit +ℤ pos 16 *ℤ (f.den *ℤ f.den))

-- the spread is at most 4 * |to - from| / den and 4 units
abbrev pub IsModest : FoldSpan → ℤ → ℤ → Type 0
IsModest f lo hi =
    ((hi -ℤ lo) *ℤ f.den) ≤ℤ (pos (4 * unsigned_abs (f.to -ℤ f.from)) *ℤ unit +ℤ pos 4 *ℤ f.den)

-- both bounds lie from -16 to 16
pub record InSixteen (lo hi : ℤ) : Type 0 where
  pub low : neg_ℤ (pos (2 ^ 44)) ≤ℤ lo
  pub high : hi ≤ℤ pos (2 ^ 44)

-- r units are 2 * ((to - from) / den)^2, rounded up: how far a value may leave its chord, for the whole span
abbrev pub IsBend : FoldSpan → ℤ → Type 0
IsBend f r = let step = f.to -ℤ f.from in IsCeil ((pos 2 *ℤ (step *ℤ step)) *ℤ unit) (f.den *ℤ f.den) r

-- r units are 2 * |to - from| / den, rounded up: how far a value may go
abbrev pub IsReach : FoldSpan → ℤ → Type 0
IsReach f r = IsCeil (pos (2 * unsigned_abs (f.to -ℤ f.from)) *ℤ unit) f.den r

-- the rates of a smooth span: the change from a value of the first bounds to one of the last, widened by the
-- bend r
pub record ByChord (f : FoldSpan) (first last rate : Bounds) : Type 0 where
  pub smooth : IsSmooth f
  pub r : ℤ
  pub bend : IsBend f r
  pub low : rate.lo ≡ last.lo -ℤ first.hi -ℤ r
  pub high : rate.hi ≡ last.hi -ℤ first.lo +ℤ r

-- the rates of another span: the reach either way
pub record BySteepness (f : FoldSpan) (rate : Bounds) : Type 0 where
  pub rough : ¬ (IsSmooth f)
  pub most : IsReach f rate.hi
  pub low : rate.lo ≡ neg_ℤ rate.hi

abbrev pub IsRate : FoldSpan → Bounds → Bounds → Bounds → Type 0
IsRate f first last rate = ByChord f first last rate ⊎ BySteepness f rate
