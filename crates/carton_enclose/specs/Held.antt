-- What an enclosure holds: fractions x / v of whole numbers, v > 0, at moments n / d from 0 to 1. Units are
-- 2^-40.
use Rattle.std.specs.Prelude.{◌≡◌, ℕ, ◌*◌, ◌<◌, max, ℤ, pos, ◌+ℤ◌, ◌-ℤ◌, ◌*ℤ◌, neg_ℤ, unsigned_abs}
use Rattle.carton_base.specs.Rounding.{IsBetween}
use Rattle.carton_base.specs.Moments.{IsMoment}

-- the larger of the sizes of two ends
abbrev pub size_of : ℤ → ℤ → ℕ
size_of lo hi = max (unsigned_abs lo) (unsigned_abs hi)

-- how far apart two ends lie
abbrev pub spread_of : ℤ → ℤ → ℕ
spread_of lo hi = unsigned_abs (hi -ℤ lo)

-- some fraction lies both from a to b units and from c to e units
pub record Meet (a b c e : ℤ) : Type 0 where
  pub x : ℤ
  pub v : ℕ
  pub positive : 0 < v
  pub in_first : IsBetween a b x v
  pub in_second : IsBetween c e x v

-- how a type of enclosures tells what it holds: at the moment n / d, the fraction x / v
abbrev pub Holding : Type 0 → Type 1
Holding E = E → ℕ → ℕ → ℤ → ℕ → Type 0

-- r holds the whole number k at every moment
abbrev pub HoldsWhole : {E : Type 0} → Holding E → ℤ → E → Type 0
HoldsWhole {E} holds k r = (n d : ℕ) (v : ℕ) → IsMoment n d → 0 < v → holds r n d (k *ℤ pos v) v

-- r holds at every moment each fraction from lo to hi units
abbrev pub HoldsAll : {E : Type 0} → Holding E → ℤ → ℤ → E → Type 0
HoldsAll {E} holds lo hi r = (n d : ℕ) (x : ℤ) (v : ℕ) → IsMoment n d → 0 < v → IsBetween lo hi x v
    → holds r n d x v

-- x / v is p / u + (n / d) * (q / u)
abbrev pub IsReached : ℕ → ℕ → ℤ → ℤ → ℕ → ℤ → ℕ → Type 0
IsReached n d p q u x v = x *ℤ pos (u * d) ≡ (p *ℤ pos d +ℤ q *ℤ pos n) *ℤ pos v

-- at the moment n / d, r holds each fraction from lo to hi units that is the sum of a fraction from a to b
-- units
-- and of n / d times one from c to e units
abbrev pub HoldsRamp : {E : Type 0} → Holding E → ℤ → ℤ → ℤ → ℤ → ℤ → ℤ → E → Type 0
HoldsRamp {E} holds a b c e lo hi r = (n d : ℕ) (p q : ℤ) (u : ℕ) (x : ℤ) (v : ℕ) → IsMoment n d → 0 < u
    → 0 < v
    → IsBetween a b p u → IsBetween c e q u → IsBetween lo hi x v → IsReached n d p q u x v → holds r n d x v

-- at each moment r holds the sum of what a and b hold
abbrev pub HoldsSum : {E : Type 0} → Holding E → E → E → E → Type 0
HoldsSum {E} holds a b r = (n d : ℕ) (x y : ℤ) (w : ℕ) → IsMoment n d → 0 < w → holds a n d x w
    → holds b n d y w → holds r n d (x +ℤ y) w

-- at each moment r holds the difference of what a and b hold
abbrev pub HoldsDifference : {E : Type 0} → Holding E → E → E → E → Type 0
HoldsDifference {E} holds a b r = (n d : ℕ) (x y : ℤ) (w : ℕ) → IsMoment n d → 0 < w → holds a n d x w
    → holds b n d y w → holds r n d (x -ℤ y) w

-- at each moment r holds the negation of what a holds
abbrev pub HoldsNegation : {E : Type 0} → Holding E → E → E → Type 0
HoldsNegation {E} holds a r = (n d : ℕ) (x : ℤ) (v : ℕ) → IsMoment n d → 0 < v → holds a n d x v
    → holds r n d (neg_ℤ x) v

-- at each moment r holds the product of what a and b hold
abbrev pub HoldsProduct : {E : Type 0} → Holding E → E → E → E → Type 0
HoldsProduct {E} holds a b r = (n d : ℕ) (x y : ℤ) (v w : ℕ) → IsMoment n d → 0 < v → 0 < w → holds a n d x v
    → holds b n d y w → holds r n d (x *ℤ y) (v * w)
