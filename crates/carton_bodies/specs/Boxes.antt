-- Boxes as bodies, and the ranges of boxes and strokes.
use Rattle.std.specs.Prelude.{ℕ, ◌≤◌, List, [], ◌∷◌, All, ℤ, pos, negsuc, neg_ℤ, ◌<ℤ◌, unsigned_abs}
use Rattle.carton_base.specs.declared.bodies.Cuboid.{Cuboid}
use Rattle.carton_bodies.specs.Bodies.{Side}

abbrev pub side : ℤ → ℤ → ℤ → ℤ → Side
side u v s offset = record { u = u; v = v; s = s; offset = offset }

-- the six faces of a box
abbrev pub faces : Cuboid → List Side
faces b =
    side (pos 1) (pos 0) (pos 0) b.x1 ∷
    side (negsuc 0) (pos 0) (pos 0) (neg_ℤ b.x0) ∷
    side (pos 0) (pos 1) (pos 0) b.y1 ∷
    side (pos 0) (negsuc 0) (pos 0) (neg_ℤ b.y0) ∷
    side (pos 0) (pos 0) (pos 1) b.z1 ∷
    side (pos 0) (pos 0) (negsuc 0) (neg_ℤ b.z0) ∷
    []

-- how far from the origin a box may lie along an axis, and how long a stroke may be
abbrev pub farthest_place : ℕ
farthest_place = 100000

-- the numbers of a box are in range, and along each axis it has a length
pub record IsBox (b : Cuboid) : Type 0 where
  pub x0 : unsigned_abs b.x0 ≤ farthest_place
  pub x1 : unsigned_abs b.x1 ≤ farthest_place
  pub y0 : unsigned_abs b.y0 ≤ farthest_place
  pub y1 : unsigned_abs b.y1 ≤ farthest_place
  pub z0 : unsigned_abs b.z0 ≤ farthest_place
  pub z1 : unsigned_abs b.z1 ≤ farthest_place
  pub x : b.x0 <ℤ b.x1
  pub y : b.y0 <ℤ b.y1
  pub z : b.z0 <ℤ b.z1

-- the numbers of a stroke are in range
abbrev pub IsStroke : List ℤ → Type 0
IsStroke stroke = All (λ c. unsigned_abs c ≤ farthest_place) stroke
