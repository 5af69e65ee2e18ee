-- The joints of a dieline: which edges join two panels, which of these are free, and how each turns its
-- child.
use Rattle.std.specs.Prelude.{◌≡◌, ◌↔◌, ℕ, ◌<◌, List, length, All, AllPairs, Any, Contains, IsTrue, Bool}
use Rattle.std.specs.Prelude.{if◌then◌else◌, Option, None, Some, slice_get, slice_index_or, ℤ, pos, neg_ℤ}
use Rattle.std.specs.Prelude.{◌<ℤ◌}
use Rattle.std.specs.List.{HoldsAt}
use Rattle.carton_base.specs.declared.dieline.RawDieline.{RawDieline}
use Rattle.carton_base.specs.declared.dieline.Point.{Point}
use Rattle.carton_base.specs.declared.dieline.Ends.{Ends}
use Rattle.carton_base.specs.declared.dieline.Letter.TheVariants.{Flat}
use Rattle.carton_base.specs.declared.ids.EdgeId.{EdgeId}
use Rattle.carton_base.specs.declared.motion.Turn.{Turn}
use Rattle.carton_panels.specs.Panels.{face_at, origin}
use Rattle.carton_panels.specs.Around.{around}
use Rattle.carton_panels.specs.Creases.{IsFirstEdge, IsSideOf, IsCommonCrease}

-- the vertices of panel f
abbrev pub vertices_of : RawDieline → ℕ → List ℕ
vertices_of d f = (face_at d f).corners

-- edge k is a side of panel f
pub record IsSide (d : RawDieline) (k f : ℕ) : Type 0 where
  pub panel : f < length d.faces
  pub side : IsSideOf d.edges (vertices_of d f) k

-- a side of panel f goes from vertex p to vertex q
abbrev pub GoesFrom : RawDieline → ℕ → ℕ → ℕ → Type 0
GoesFrom d f p q = Contains (around (vertices_of d f)) (record { from = p; to = q })

-- panel f goes along edge k from vertex p to vertex q
pub record GoesAlong (d : RawDieline) (k f p q : ℕ) : Type 0 where
  pub side : GoesFrom d f p q
  pub edge : IsFirstEdge d.edges k p q

-- edge k joins panel f to panel g: it is a side of both, and its letter lets it join
pub record IsJointOf (d : RawDieline) (k f g : ℕ) : Type 0 where
  pub first : f < length d.faces
  pub second : g < length d.faces
  pub apart : ¬ (f ≡ g)
  pub crease : IsCommonCrease d (vertices_of d f) (vertices_of d g) k

abbrev pub IsJoint : RawDieline → ℕ → Type 0
IsJoint d k = (f g : ℕ) × IsJointOf d k f g

-- the edge has the letter F: as a joint it is locked at stop 0
abbrev pub IsLocked : RawDieline → ℕ → Type 0
IsLocked d k = slice_get d.letters k ≡ Some Flat

pub record IsFree (d : RawDieline) (k : ℕ) : Type 0 where
  pub joint : IsJoint d k
  pub loose : ¬ (IsLocked d k)

-- the free joints, in the order of their edges
pub record AreCreases (d : RawDieline) (creases : List EdgeId) : Type 0 where
  pub ordered : AllPairs (λ j k. j.0 < k.0) creases
  pub free : All (λ e. IsFree d e.0) creases
  pub whole : (k : ℕ) → IsFree d k → Contains creases (record { 0 = k })

-- the place of joint k in the states: which of the free joints it is, and none where it is locked
abbrev pub IsPlace : RawDieline → List EdgeId → ℕ → Option ℕ → Type 0
IsPlace d creases k None = IsLocked d k
IsPlace d creases k (Some n) = (n < length creases) × HoldsAt (λ e. e.0 ≡ k) creases n

-- the place of vertex v
abbrev pub vertex_at : RawDieline → ℕ → Point
vertex_at d v = slice_index_or d.vertices v origin

-- the two ends of edge k
abbrev pub edge_at : RawDieline → ℕ → Ends
edge_at d k = slice_index_or d.edges k (record { p = 0; q = 0 })

abbrev pub from_of : RawDieline → ℕ → Point
from_of d k = vertex_at d (edge_at d k).p

abbrev pub to_of : RawDieline → ℕ → Point
to_of d k = vertex_at d (edge_at d k).q

-- edge k is parallel to the y axis: its ends have one x
abbrev pub IsUpright : RawDieline → ℕ → Type 0
IsUpright d k = (from_of d k).x ≡ (to_of d k).x

-- edge k is parallel to no axis
abbrev pub IsSlanted : RawDieline → ℕ → Type 0
IsSlanted d k = ¬ (IsUpright d k) × ¬ ((from_of d k).y ≡ (to_of d k).y)

-- the coordinate across a line: x across an upright one, y across a level one
abbrev pub across : Bool → Point → ℤ
across upright p = if upright then p.x else p.y

-- panel f lies beyond the line, at the greater coordinate: one of its vertices does, and so all do that
-- aren't on the line
abbrev pub LiesBeyond : RawDieline → ℕ → Bool → ℤ → Type 0
LiesBeyond d f upright at = Any (λ v. at <ℤ across upright (vertex_at d v)) (vertices_of d f)

-- how joint k turns its child f: about its line, up where the child lies at the greater coordinate
pub record IsTurnOf (d : RawDieline) (creases : List EdgeId) (k f : ℕ) (t : Turn) : Type 0 where
  pub place : IsPlace d creases k t.place
  pub upright : IsTrue t.upright ↔ IsUpright d k
  pub at : t.at ≡ across t.upright (from_of d k)
  pub greater : LiesBeyond d f t.upright t.at → t.sign ≡ pos 1
  pub smaller : ¬ (LiesBeyond d f t.upright t.at) → t.sign ≡ neg_ℤ (pos 1)
