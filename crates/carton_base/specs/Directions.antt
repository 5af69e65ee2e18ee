-- The directions along which panels are parted.
use Rattle.std.specs.Prelude.{◌≡◌, ℤ, pos, neg_ℤ, ◌≤ℤ◌}

-- -1, 0 or 1
pub record IsSign (c : ℤ) : Type 0 where
  pub from : neg_ℤ (pos 1) ≤ℤ c
  pub upto : c ≤ℤ pos 1

-- each part of (u, v, t) is -1, 0 or 1, and they are not all 0
pub record IsDirection (u v t : ℤ) : Type 0 where
  pub x : IsSign u
  pub y : IsSign v
  pub z : IsSign t
  pub some : ¬ ((u ≡ pos 0) × (v ≡ pos 0) × (t ≡ pos 0))
