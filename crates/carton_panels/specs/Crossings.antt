-- Where the inset lines of a face cross, and the crossings that are gathered.
use Rattle.std.specs.Prelude.{◌≡◌, ◌⊎◌, ℕ, ◌<◌, List, All, Any, AllPairs, Contains, slice_index_or, Option}
use Rattle.std.specs.Prelude.{Some, None, ℤ, pos, neg_ℤ, ◌-ℤ◌, ◌*ℤ◌, ◌<ℤ◌}
use Rattle.carton_base.specs.declared.dieline.Point.{Point}
use Rattle.carton_base.specs.declared.numbers.Triple.{Triple}
use Rattle.carton_panels.specs.Panels.{Side, sides_of}
use Rattle.carton_panels.specs.Shrinking.{IsSamePoint}
use Rattle.carton_model.specs.Points.{IsSmall}
use Rattle.carton_panels.specs.Insets.{inset, KeepsAll}

-- cross product of the directions of two sides
abbrev pub cross : Side → Side → ℤ
cross s t = (s.to.x -ℤ s.from.x) *ℤ (t.to.y -ℤ t.from.y) -ℤ (s.to.y -ℤ s.from.y) *ℤ (t.to.x -ℤ t.from.x)

-- the triple's parts are x, y and w
pub record HasParts (t : Triple) (x y w : ℤ) : Type 0 where
  pub x_part : t.x ≡ x
  pub y_part : t.y ≡ y
  pub w_part : t.w ≡ w

-- the flat point (x/w, y/w) as a triple of small numbers, which is there where w isn't 0
abbrev pub IsPointOf : ℤ → ℤ → ℤ → Option Triple → Type 0
IsPointOf x y w None = w ≡ pos 0
IsPointOf x y w (Some t) = IsSmall t × (HasParts t x y w ⊎ HasParts t (neg_ℤ x) (neg_ℤ y) (neg_ℤ w))

-- what is told of where the inset lines of two sides cross: a point on both, or that they are parallel
abbrev pub IsCrossing : ℕ → Side → Side → Option Triple → Type 0
IsCrossing m s t None = cross s t ≡ pos 0
IsCrossing m s t (Some p) = IsSmall p × (inset m s p.x p.y p.w ≡ pos 0) × (inset m t p.x p.y p.w ≡ pos 0)
    × ¬ (cross s t ≡ pos 0)

-- the flat point is a corner of the inset panel's lines: the inset lines of two sides that aren't parallel
-- cross there
abbrev pub IsInsetCorner : ℕ → List Point → Triple → Type 0
IsInsetCorner m ps p =
    Any (λ s. Any (λ t. ¬ (cross s t ≡ pos 0) × (inset m s p.x p.y p.w ≡ pos 0)
    × (inset m t p.x p.y p.w ≡ pos 0)) (sides_of ps)) (sides_of ps)

-- some member of the list is the flat point (x/w, y/w)
abbrev pub IsCovered : List Triple → ℤ → ℤ → ℤ → Type 0
IsCovered ts x y w = (k : Triple) × Contains ts k × (k.x *ℤ w ≡ x *ℤ k.w) × (k.y *ℤ w ≡ y *ℤ k.w)

-- where the inset lines of the two sides cross, each point on both that keeps all is in the list
abbrev pub CoversPair : ℕ → List Point → List Triple → Side → Side → Type 0
CoversPair m ps ts s t = ¬ (cross s t ≡ pos 0) → (x y w : ℤ) → pos 0 <ℤ w → inset m s x y w ≡ pos 0
    → inset m t x y w ≡ pos 0 → KeepsAll m ps x y w → IsCovered ts x y w

-- so it is with the side at i and each side after it, up to that at n
abbrev pub CoversRow : ℕ → List Point → List Triple → ℕ → ℕ → Type 0
CoversRow m ps ts i n = (j : ℕ) (d : Side) → i < j → j < n
    → CoversPair m ps ts (slice_index_or (sides_of ps) i d) (slice_index_or (sides_of ps) j d)

-- the list has points of the inset panel, each once, in small numbers
pub record IsGathered (m : ℕ) (ps : List Point) (ts : List Triple) : Type 0 where
  pub members : All (λ t. KeepsAll m ps t.x t.y t.w) ts
  pub once : AllPairs (λ a b. ¬ (IsSamePoint a b)) ts
  pub small : All IsSmall ts
  pub corners : All (IsInsetCorner m ps) ts
