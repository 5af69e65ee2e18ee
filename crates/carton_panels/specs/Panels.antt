-- Faces as panels: sides, what lies left of them, and which faces are convex.
use Rattle.std.specs.Prelude.{◌≡◌, ◌≢◌, ℕ, ◌<◌, List, [], length, map, All, AllPairs, Any, Bool, not, filter}
use Rattle.std.specs.Prelude.{slice_index_or, ℤ, pos, ◌-ℤ◌, ◌*ℤ◌, ◌≤ℤ◌, ◌<ℤ◌}
use Rattle.std.specs.Ordering.{int_eq}
use Rattle.carton_base.specs.declared.dieline.RawDieline.{RawDieline}
use Rattle.carton_base.specs.declared.dieline.Point.{Point}
use Rattle.carton_base.specs.declared.dieline.Face.{Face}
use Rattle.carton_panels.specs.Around.{Step, around, last_first}

abbrev pub origin : Point
origin = record { x = pos 0; y = pos 0 }

-- the places of the vertices of a face, in its order
abbrev pub places_of : RawDieline → Face → List Point
places_of d f = map (λ c. slice_index_or d.vertices c origin) f.corners

-- face k of the dieline, and past the last one a face of no vertices
abbrev pub face_at : RawDieline → ℕ → Face
face_at d k = slice_index_or d.faces k (record { corners = [] })

-- a side of a face goes from a vertex to the next one
abbrev pub Side : Type 0
Side = Step Point

-- the sides of a face: from each vertex to the next, and from the last to the first
abbrev pub sides_of : List Point → List Side
sides_of ps = around ps

-- how far the flat point (x/w, y/w) lies left of the side: positive on its left, 0 on its line
abbrev pub leftness : Side → ℤ → ℤ → ℤ → ℤ
leftness s x y w =
    (s.to.x -ℤ s.from.x) *ℤ (y -ℤ s.from.y *ℤ w) -ℤ (s.to.y -ℤ s.from.y) *ℤ (x -ℤ s.from.x *ℤ w)

-- the flat point is left of the side or on its line
abbrev pub IsLeft : Side → ℤ → ℤ → ℤ → Type 0
IsLeft s x y w = pos 0 ≤ℤ leftness s x y w

abbrev pub IsStrictlyLeft : Side → ℤ → ℤ → ℤ → Type 0
IsStrictlyLeft s x y w = pos 0 <ℤ leftness s x y w

-- the flat point (x/w, y/w) lies in the panel whose vertices these are
abbrev pub InPanel : List Point → ℤ → ℤ → ℤ → Type 0
InPanel ps x y w = All (λ s. IsLeft s x y w) (sides_of ps)

-- no two vertices stand in one place
abbrev pub IsDistinct : List Point → Type 0
IsDistinct ps = AllPairs (λ p q. p ≢ q) ps

-- two vertices stand in one place
abbrev pub IsRepeating : List Point → Type 0
IsRepeating ps = (i j : ℕ) × (i < j) × (j < length ps)
    × (slice_index_or ps i origin ≡ slice_index_or ps j origin)

-- no vertex lies right of a side, and each side has a vertex strictly left of it
abbrev pub IsConvex : List Point → Type 0
IsConvex ps =
    All (λ s. All (λ p. IsLeft s p.x p.y (pos 1)) ps × Any (λ p. IsStrictlyLeft s p.x p.y (pos 1)) ps)
    (sides_of ps)

-- what meets at the vertices of a face, in their order: from the side before the vertex to the side after it
abbrev pub bends_of : List Point → List (Step Side)
bends_of ps = around (last_first (sides_of ps))

-- the vertex is straight: the two sides that meet there lie in one line
abbrev pub is_straight : Step Side → Bool
is_straight b = int_eq (leftness b.from b.to.to.x b.to.to.y (pos 1)) (pos 0)

-- the corners of a face: its vertices that aren't straight, in its order
abbrev pub corners_of : List Point → List Point
corners_of ps = map (λ b. b.to.from) (filter (λ b. not (is_straight b)) (bends_of ps))
