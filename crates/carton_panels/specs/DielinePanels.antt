-- The panels of a whole dieline: which of its faces are panels, and the shapes of those.
use Rattle.std.specs.Prelude.{◌≡◌, ℕ, ◌<◌, ◌≤◌, List, length, slice_index_or}
use Rattle.carton_base.specs.declared.dieline.RawDieline.{RawDieline}
use Rattle.carton_base.specs.declared.dieline.Point.{Point}
use Rattle.carton_panels.specs.Panels.{places_of, face_at, IsDistinct, IsConvex}
use Rattle.carton_panels.specs.Shrinking.{HasRoom}
use Rattle.carton_panels.specs.Shapes.{Shape}

-- the places of the vertices of face a
abbrev pub panel_places : RawDieline → ℕ → List Point
panel_places d a = places_of d (face_at d a)

-- the face whose vertices stand at these places is a panel at this margin
pub record IsPanel (m : ℕ) (ps : List Point) : Type 0 where
  pub distinct : IsDistinct ps
  pub convex : IsConvex ps
  pub room : HasRoom m ps

-- the faces before a are panels
abbrev pub ArePanels : ℕ → RawDieline → ℕ → Type 0
ArePanels m d a = (k : ℕ) → k < a → IsPanel m (panel_places d k)

-- the shape is that of face a at this margin
pub record IsShapeOf (m : ℕ) (d : RawDieline) (a : ℕ) (s : Shape) : Type 0 where
  pub places : s.places ≡ panel_places d a
  pub margin : s.margin ≡ m
  pub panel : IsPanel m (panel_places d a)

-- the shapes are those of the first faces, in their order
pub record AreShapes (m : ℕ) (d : RawDieline) (shapes : List Shape) : Type 0 where
  pub few : length shapes ≤ length d.faces
  pub each : (a : ℕ) (s : Shape) → a < length shapes → IsShapeOf m d a (slice_index_or shapes a s)
