-- Which edges are sides of a face, and the crease that two faces share.
use Rattle.std.specs.Prelude.{◌≡◌, ◌⊎◌, ⊤, ℕ, ◌<◌, List, length, Contains, Option, Some, None, slice_get}
use Rattle.carton_base.specs.declared.dieline.RawDieline.{RawDieline}
use Rattle.carton_base.specs.declared.dieline.Ends.{Ends}
use Rattle.carton_base.specs.declared.dieline.Letter.{Letter}
use Rattle.carton_base.specs.declared.dieline.Letter.TheVariants.{Boundary, Mountain, Valley, Flat}
use Rattle.carton_base.specs.declared.dieline.Letter.TheVariants.{Unassigned, Cut}
use Rattle.carton_base.specs.declared.ids.EdgeId.{EdgeId}
use Rattle.carton_panels.specs.Around.{around}

-- an edge of this letter joins two faces
abbrev pub Joins : Letter → Type 0
Joins Boundary = ⊥
Joins Mountain = ⊤
Joins Valley = ⊤
Joins Flat = ⊤
Joins Unassigned = ⊤
Joins Cut = ⊥

-- the two ends of the edge are the vertices p and q, either way round
abbrev pub HasEnds : Ends → ℕ → ℕ → Type 0
HasEnds e p q = ((e.p ≡ p) × (e.q ≡ q)) ⊎ ((e.p ≡ q) × (e.q ≡ p))

-- edge k is the first edge with the ends p and q
pub record IsFirstEdge (edges : List Ends) (k p q : ℕ) : Type 0 where
  pub ends : (e : Ends) → slice_get edges k ≡ Some e → HasEnds e p q
  pub within : k < length edges
  pub first : (j : ℕ) (e : Ends) → j < k → slice_get edges j ≡ Some e → ¬ (HasEnds e p q)

-- edge k is a side of the face with these vertices: of two edges with the same ends only the first is
abbrev pub IsSideOf : List Ends → List ℕ → ℕ → Type 0
IsSideOf edges vertices k = (p q : ℕ) × Contains (around vertices) (record { from = p; to = q })
    × IsFirstEdge edges k p q

-- edge k joins two faces with these vertices: it is a side of both, and its letter lets it join
pub record IsCommonCrease (d : RawDieline) (first second : List ℕ) (k : ℕ) : Type 0 where
  pub joins : (l : Letter) → slice_get d.letters k ≡ Some l → Joins l
  pub side_of_first : IsSideOf d.edges first k
  pub side_of_second : IsSideOf d.edges second k

-- the first crease that two faces share, or none where they share none
abbrev pub IsCommonCreaseAnswer : RawDieline → List ℕ → List ℕ → Option EdgeId → Type 0
IsCommonCreaseAnswer d first second (Some e) = IsCommonCrease d first second e.0
    × ((k : ℕ) → k < e.0 → ¬ (IsCommonCrease d first second k))
IsCommonCreaseAnswer d first second None = (k : ℕ) → ¬ (IsCommonCrease d first second k)
