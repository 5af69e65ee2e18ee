-- Directed division and scaled products, in units of 2^-40.
use Rattle.std.specs.Prelude.{ℕ, ℤ, pos, ◌+ℤ◌, ◌-ℤ◌, ◌*ℤ◌, ◌≤ℤ◌, ◌<ℤ◌, ◌^◌}

-- q is the greatest whole number that is not above n / d, for d > 0
pub record IsFloor (n d q : ℤ) : Type 0 where
  pub below : (q *ℤ d) ≤ℤ n
  pub next : n <ℤ (q *ℤ d +ℤ d)

-- q is the least whole number that is not below n / d, for d > 0
pub record IsCeil (n d q : ℤ) : Type 0 where
  pub above : n ≤ℤ (q *ℤ d)
  pub last : (q *ℤ d -ℤ d) <ℤ n

-- the units in one whole
abbrev pub unit : ℤ
unit = pos (2 ^ 40)

-- the fraction x / v lies from lo to hi units of 2^-40
pub record IsBetween (lo hi x : ℤ) (v : ℕ) : Type 0 where
  pub from : (lo *ℤ pos v) ≤ℤ (x *ℤ unit)
  pub upto : (x *ℤ unit) ≤ℤ (hi *ℤ pos v)
