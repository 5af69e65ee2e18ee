-- Flat points of a dieline that are near enough and small enough for whole-number arithmetic.
use Rattle.std.specs.Prelude.{◌*◌, ◌≤◌, ◌^◌, unsigned_abs}
use Rattle.carton_base.specs.declared.numbers.Triple.{Triple}
use Rattle.carton_base.specs.declared.limits.TheConstants.{FARTHEST}

-- the point lies within the farthest place along both axes
pub record IsNearPoint (t : Triple) : Type 0 where
  pub x : unsigned_abs t.x ≤ FARTHEST * unsigned_abs t.w
  pub y : unsigned_abs t.y ≤ FARTHEST * unsigned_abs t.w

-- each part of the triple is at most 2^45 away from 0
pub record IsSmall (t : Triple) : Type 0 where
  pub x : unsigned_abs t.x ≤ 2 ^ 45
  pub y : unsigned_abs t.y ≤ 2 ^ 45
  pub w : unsigned_abs t.w ≤ 2 ^ 45
