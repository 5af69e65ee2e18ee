-- When a piece of a move of a plan begins and ends. Times are counted in moves since the start of the plan;
-- units are 2^-40.
use Rattle.std.specs.Prelude.{◌≡◌, ℕ, ◌+◌, ◌≤◌, ◌^◌, pos, ◌+ℤ◌, ◌*ℤ◌, unsigned_abs}
use Rattle.carton_base.specs.Rounding.{unit}
use Rattle.carton_bodies.specs.declared.span.Span.{Span}

-- the times of the piece from index / 2^depth to (index + 1) / 2^depth of move i, and that they are small
pub record IsSpan (i index depth : ℕ) (s : Span) : Type 0 where
  pub from : s.from *ℤ pos (2 ^ depth) ≡ (pos i *ℤ pos (2 ^ depth) +ℤ pos index) *ℤ unit
  pub upto : s.upto *ℤ pos (2 ^ depth) ≡ (pos i *ℤ pos (2 ^ depth) +ℤ pos (index + 1)) *ℤ unit
  pub early : unsigned_abs s.from ≤ 2 ^ 78
  pub late : unsigned_abs s.upto ≤ 2 ^ 78
