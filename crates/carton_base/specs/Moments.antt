-- Moments of a move, and the pieces that halving makes of it.
use Rattle.std.specs.Prelude.{ℕ, ◌+◌, ◌*◌, ◌<◌, ◌≤◌, ◌^◌}

-- n / d is a moment from 0 to 1
pub record IsMoment (n d : ℕ) : Type 0 where
  pub within : n ≤ d
  pub some : 0 < d

-- the moment n / d lies from index / 2^depth to (index + 1) / 2^depth
pub record InPiece (index depth n d : ℕ) : Type 0 where
  pub from : index * d ≤ n * 2 ^ depth
  pub upto : n * 2 ^ depth ≤ (index + 1) * d
