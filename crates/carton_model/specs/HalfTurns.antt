-- Cosine and sine of a fold. A fold is a fraction n / d from -2 to 2: 0 is flat, 1 a right angle, 2 folded
-- back onto the parent.
-- A positive fold raises the child panel.
use Rattle.std.specs.Prelude.{◌≡◌, ℕ, ◌*◌, ◌<◌, Bool, nat_le, if◌then◌else◌, ℤ, pos, negsuc, neg_ℤ, ◌+ℤ◌}
use Rattle.std.specs.Prelude.{◌-ℤ◌, ◌*ℤ◌, unsigned_abs}
use Rattle.carton_base.specs.Rounding.{IsBetween}

-- the fold n / d is at most a right angle either way
abbrev pub is_slight : ℤ → ℕ → Bool
is_slight n d = nat_le (unsigned_abs n) d

-- d with the sign of n
abbrev pub with_sign : ℤ → ℕ → ℤ
with_sign (pos n) d = pos d
with_sign (negsuc n) d = neg_ℤ (pos d)

-- the half pair of the fold n / d: (d, n) up to a right angle, past it (2d - |n|, d with the sign of n)
unfoldable pub half_cosine : ℤ → ℕ → ℤ
half_cosine n d = if is_slight n d then pos d else (pos (2 * d) -ℤ pos (unsigned_abs n))

unfoldable pub half_sine : ℤ → ℕ → ℤ
half_sine n d = if is_slight n d then n else with_sign n d

-- cosine and sine of the fold n / d, both over the sum of the squares of its half pair
unfoldable pub cosine : ℤ → ℕ → ℤ
cosine n d = half_cosine n d *ℤ half_cosine n d -ℤ half_sine n d *ℤ half_sine n d

unfoldable pub sine : ℤ → ℕ → ℤ
sine n d = pos 2 *ℤ (half_cosine n d *ℤ half_sine n d)

unfoldable pub square_sum : ℤ → ℕ → ℕ
square_sum n d = unsigned_abs (half_cosine n d *ℤ half_cosine n d +ℤ half_sine n d *ℤ half_sine n d)

-- a fold that goes evenly from a / e to b / e is this over e * d at the moment n / d
abbrev pub moving : ℤ → ℤ → ℕ → ℕ → ℤ
moving a b n d = a *ℤ pos d +ℤ (b -ℤ a) *ℤ pos n

-- a fold as a fraction
pub record Fold : Type 0 where
  pub num : ℤ
  pub den : ℕ

-- the fold of a stop on a grid
abbrev pub stop_fold : ℤ → ℕ → Fold
stop_fold s grid = record { num = s; den = grid }

-- the fold, at the moment n / d, of a joint that goes from the stop s to the stop t of a grid
abbrev pub joint_fold : ℤ → ℤ → ℕ → ℕ → ℕ → Fold
joint_fold s t grid n d = record { num = moving s t n d; den = grid * d }

-- x / v is a / w and n / d times some rate / over, which lies from lo to hi units of 2^-40
pub record Leads (lo hi a : ℤ) (w n d : ℕ) (x : ℤ) (v : ℕ) : Type 0 where
  pub rate : ℤ
  pub over : ℕ
  pub some : 0 < over
  pub within : IsBetween lo hi rate over
  pub reaches : x *ℤ pos (w * (d * over)) ≡ (a *ℤ pos (d * over) +ℤ rate *ℤ pos (n * w)) *ℤ pos v
