-- Where a point stands over a piece of a move, within bounds in units of 2^-40.
use Rattle.std.specs.Prelude.{ℕ, ◌*◌, ◌≤◌, ◌^◌, List, pos, ◌+ℤ◌, ◌≤ℤ◌, ◌<ℤ◌, unsigned_abs}
use Rattle.carton_base.specs.Rounding.{IsBetween}
use Rattle.carton_base.specs.declared.dieline.Point.{Point}
use Rattle.carton_base.specs.declared.motion.Motion.{Motion}
use Rattle.carton_base.specs.declared.motion.Turn.{Turn}
use Rattle.carton_model.specs.Moves.{fold_at}
use Rattle.carton_model.specs.Parting.{Position}
use Rattle.carton_model.specs.Turning.{placed}
use Rattle.carton_enclose.specs.Held.{size_of}
use Rattle.carton_part.specs.Points.{flat_at}
use Rattle.carton_bodies.specs.declared.spot.Spot.{Spot}

-- where the flat point stands after the turns at the moment n / d of the move
abbrev pub flat_point : Motion → List Turn → ℕ → ℕ → Point → Position
flat_point motion turns n d p = placed (fold_at motion n d) turns (flat_at p.x p.y (pos 1))

-- the position lies within the spot
pub record IsAt (s : Spot) (q : Position) : Type 0 where
  pub positive : pos 0 <ℤ q.w
  pub x : IsBetween s.x.lo s.x.hi q.x (unsigned_abs q.w)
  pub y : IsBetween s.y.lo s.y.hi q.y (unsigned_abs q.w)
  pub z : IsBetween s.z.lo s.z.hi q.z (unsigned_abs q.w)

-- each part of the spot is so small that it can be computed with
pub record IsSmall (s : Spot) : Type 0 where
  pub x : size_of s.x.lo s.x.hi ≤ 2 ^ 63
  pub y : size_of s.y.lo s.y.hi ≤ 2 ^ 63
  pub z : size_of s.z.lo s.z.hi ≤ 2 ^ 63

-- at depth 36 each part is known to so many units
abbrev pub spot_units : ℕ
spot_units = 18 * 2 ^ 27

pub record IsNarrow (s : Spot) : Type 0 where
  pub x : s.x.hi ≤ℤ (s.x.lo +ℤ pos spot_units)
  pub y : s.y.hi ≤ℤ (s.y.lo +ℤ pos spot_units)
  pub z : s.z.hi ≤ℤ (s.z.lo +ℤ pos spot_units)
