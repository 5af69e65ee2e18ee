-- A dieline that keeps the rules of its file.
use Rattle.std.specs.Prelude.{◌≡◌, ◌⊎◌, ℕ, ◌<◌, ◌≤◌, List, length, All, Option, IfSome, pos, neg_ℤ}
use Rattle.std.specs.Prelude.{unsigned_abs}
use Rattle.carton_base.specs.declared.dieline.RawDieline.{RawDieline}
use Rattle.carton_base.specs.declared.dieline.Point.{Point}
use Rattle.carton_base.specs.declared.dieline.Ends.{Ends}
use Rattle.carton_base.specs.declared.dieline.Face.{Face}
use Rattle.carton_base.specs.declared.ids.Stop.{Stop}
use Rattle.carton_base.specs.declared.limits.TheConstants.{MOST_VERTICES, MOST_EDGES, MOST_PANELS}
use Rattle.carton_base.specs.declared.limits.TheConstants.{LEAST_CORNERS, MOST_CORNERS, FARTHEST}

-- the vertex lies no farther from the origin than any may, along both axes
pub record IsNear (p : Point) : Type 0 where
  pub x : unsigned_abs p.x ≤ FARTHEST
  pub y : unsigned_abs p.y ≤ FARTHEST

-- the edge has two different ends among so many vertices
pub record IsEdge (vertices : ℕ) (e : Ends) : Type 0 where
  pub p : e.p < vertices
  pub q : e.q < vertices
  pub apart : ¬ (e.p ≡ e.q)

-- the face has as many corners as one may, among so many vertices
pub record IsFace (vertices : ℕ) (f : Face) : Type 0 where
  pub some : LEAST_CORNERS ≤ length f.corners
  pub few : length f.corners ≤ MOST_CORNERS
  pub corners : All (λ c. c < vertices) f.corners

-- an angle of a whole number of right angles: the stop is one of -16, -8, 0, 8 and 16
abbrev pub IsRightAngled : Stop → Type 0
IsRightAngled s = (s.0 ≡ neg_ℤ (pos 16)) ⊎ (s.0 ≡ neg_ℤ (pos 8)) ⊎ (s.0 ≡ pos 0) ⊎ (s.0 ≡ pos 8)
    ⊎ (s.0 ≡ pos 16)

-- there is one entry for each edge, and each that has a stop is right-angled
abbrev pub AreAngles : ℕ → List (Option Stop) → Type 0
AreAngles edges angles = (length angles ≡ edges) × All (λ o. IfSome o IsRightAngled) angles

-- the dieline keeps every rule of its file, and the limits
pub record IsDieline (d : RawDieline) : Type 0 where
  pub vertices : length d.vertices ≤ MOST_VERTICES
  pub near : All IsNear d.vertices
  pub edges : length d.edges ≤ MOST_EDGES
  pub ends : All (IsEdge (length d.vertices)) d.edges
  pub letters : length d.letters ≡ length d.edges
  pub some_face : 1 ≤ length d.faces
  pub faces : length d.faces ≤ MOST_PANELS
  pub corners : All (IsFace (length d.vertices)) d.faces
  pub angles : IfSome d.angles (AreAngles (length d.edges))
