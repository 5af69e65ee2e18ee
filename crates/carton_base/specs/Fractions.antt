-- Fractions rounded both ways, in units of 2^-40.
use Rattle.std.specs.Prelude.{ℕ, ℤ, pos, ◌*ℤ◌}
use Rattle.carton_base.specs.Rounding.{IsFloor, IsCeil, unit}

-- lo and hi are x / v rounded down and up
pub record IsRounded (x : ℤ) (v : ℕ) (lo hi : ℤ) : Type 0 where
  pub down : IsFloor (x *ℤ unit) (pos v) lo
  pub up : IsCeil (x *ℤ unit) (pos v) hi
