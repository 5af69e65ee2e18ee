-- Cosine and sine of one fold, rounded.
use Rattle.std.specs.Prelude.{◌≡◌, ℕ, ℤ, pos, neg_ℤ, ◌≤◌, ◌-ℤ◌, ◌≤ℤ◌, ◌<ℤ◌, unsigned_abs}
use Rattle.carton_base.specs.Rounding.{unit}
use Rattle.carton_base.specs.Fractions.{IsRounded}
use Rattle.carton_model.specs.HalfTurns.{cosine, sine, square_sum}
use Rattle.carton_halfturn.specs.declared.folds.Fold.{Fold}
use Rattle.carton_halfturn.specs.declared.spans.FoldSpan.{FoldSpan}

-- both bounds lie from -1 to 1
pub record InUnit (lo hi : ℤ) : Type 0 where
  pub low : neg_ℤ unit ≤ℤ lo
  pub high : hi ≤ℤ unit

-- lo and hi are x / v, which lies from -1 to 1, rounded down and up
pub record IsValue (x : ℤ) (v : ℕ) (lo hi : ℤ) : Type 0 where
  pub rounded : IsRounded x v lo hi
  pub within : InUnit lo hi
  pub tight : (hi -ℤ lo) ≤ℤ pos 1

-- lo and hi are so the cosine, or the sine, of the fold
abbrev pub IsCosine : Fold → ℤ → ℤ → Type 0
IsCosine f lo hi = let d = unsigned_abs f.den in IsValue (cosine f.num d) (square_sum f.num d) lo hi

abbrev pub IsSine : Fold → ℤ → ℤ → Type 0
IsSine f lo hi = let d = unsigned_abs f.den in IsValue (sine f.num d) (square_sum f.num d) lo hi

-- cos / over and sin / over lie from -1 to 1
pub record IsProper (cos sin over : ℤ) : Type 0 where
  pub positive : pos 0 <ℤ over
  pub cos_within : unsigned_abs cos ≤ unsigned_abs over
  pub sin_within : unsigned_abs sin ≤ unsigned_abs over

-- the folds of the two ends
pub record HasFolds (f : FoldSpan) (first last : Fold) : Type 0 where
  pub from : first.num ≡ f.from
  pub from_den : first.den ≡ f.den
  pub to : last.num ≡ f.to
  pub to_den : last.den ≡ f.den
