-- What a joint's turn takes from its edge: near coordinates, and places that fit a state.
use Rattle.std.proofs.Common.{ℕ, ◌<◌, ◌≤◌, List, length, get_or, Bool, true, false, Option, Some, None}
use Rattle.std.proofs.Common.{unsigned_abs, arith}
use Rattle.std.specs.Prelude.{IfSome, ℤ, ◌<ℤ◌}
use Rattle.carton_base.specs.declared.dieline.RawDieline.{RawDieline}
use Rattle.carton_base.specs.declared.dieline.Point.{Point}
use Rattle.carton_base.specs.declared.ids.EdgeId.{EdgeId}
use Rattle.carton_model.specs.Dielines.{IsDieline, IsNear}
use Rattle.carton_base.specs.declared.limits.TheConstants.{FARTHEST}
use Rattle.carton_panels.specs.Panels.{origin}
use Rattle.carton_panels.proofs.Making.{is_face}
use Rattle.carton_tree.specs.Joints.{IsPlace, vertex_at, vertices_of, edge_at, from_of, across}

-- the vertex lies at the greater coordinate of the line
abbrev pub IsBeyond : RawDieline → Bool → ℤ → ℕ → Type 0
IsBeyond d upright at v = at <ℤ across upright (vertex_at d v)

-- a place of so many free joints is below as many
pub place_below : (d : RawDieline) (cs : List EdgeId) (k m : ℕ) (p : Option ℕ) → length cs ≤ m
    → IsPlace d cs k p → IfSome p (λ n. n < m)
place_below d cs k m None le h = tt
place_below d cs k m (Some n) le h = omega (arith, le, h.0)

across_near : (u : Bool) (p : Point) → IsNear p → unsigned_abs (across u p) ≤ FARTHEST
across_near true p h = h.x
across_near false p h = h.y

-- the line of an edge lies among the vertices
pub line_near : (d : RawDieline) (k : ℕ) (u : Bool) → IsDieline d → k < length d.edges
    → unsigned_abs (across u (from_of d k)) ≤ FARTHEST
line_near d k u h lt =
    across_near u (from_of d k) (h.near (edge_at d k).p origin (h.ends k (record { p = 0; q = 0 }) lt).p)

-- the vertices of a panel are vertices of the dieline
pub vertex_in : (d : RawDieline) (f i e : ℕ) → IsDieline d → f < length d.faces → i < length (vertices_of d f)
    → get_or (vertices_of d f) i e < length d.vertices
vertex_in d f i e h lt in' = (is_face d f h lt).corners i e in'
