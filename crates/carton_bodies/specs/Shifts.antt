-- How far a body shifts along a direction over a piece of a move.
use Rattle.std.specs.Prelude.{◌≡◌, ℕ, ◌+◌, ◌*◌, ◌^◌, ℤ, pos, ◌+ℤ◌, ◌*ℤ◌, ◌≤ℤ◌}
use Rattle.carton_base.specs.Rounding.{IsBetween}
use Rattle.carton_base.specs.declared.numbers.Bounds.{Bounds}
use Rattle.carton_reach.specs.Reaches.{Within}

-- a body that goes so far in each move has shifted within the bounds at every moment of the piece of move i
pub record IsShift (rate : ℤ) (i index depth : ℕ) (b : Bounds) : Type 0 where
  pub within : Within index depth (λ n d. IsBetween b.lo b.hi (rate *ℤ pos (i * d + n)) d)
  pub close : depth ≡ 36 → b.hi ≤ℤ (b.lo +ℤ pos (2 ^ 30))
