-- The rules that make a dieline's panels a carton, in their order, and what breaks each.
use Rattle.std.specs.Prelude.{◌≡◌, ◌⊎◌, ℕ, ◌<◌, length, Any}
use Rattle.std.specs.List.{HoldsAt}
use Rattle.carton_base.specs.declared.dieline.RawDieline.{RawDieline}
use Rattle.carton_panels.specs.Around.{around}
use Rattle.carton_panels.specs.Creases.{HasEnds}
use Rattle.carton_panels.specs.DielinePanels.{ArePanels}
use Rattle.carton_tree.specs.Joints.{vertices_of, IsSide, GoesAlong, IsJointOf, IsJoint, IsSlanted}
use Rattle.carton_tree.specs.Chains.{AreJoined, LeadsTo, LeadsNear}

-- k is the least number with P
abbrev pub IsLeast : (ℕ → Type 0) → ℕ → Type 0
IsLeast P k = P k × ((j : ℕ) → j < k → ¬ (P j))

abbrev pub Never : (ℕ → Type 0) → Type 0
Never P = (k : ℕ) → ¬ (P k)

-- side i of panel f is no edge: none goes between its two vertices
pub record IsBare (d : RawDieline) (f i : ℕ) : Type 0 where
  pub panel : f < length d.faces
  pub side : i < length (around (vertices_of d f))
  pub bare : HoldsAt (λ s. ¬ (Any (λ e. HasEnds e s.from s.to) d.edges)) (around (vertices_of d f)) i

-- side j of panel g comes before side i of panel f
abbrev pub IsSooner : ℕ → ℕ → ℕ → ℕ → Type 0
IsSooner g j f i = (g < f) ⊎ ((g ≡ f) × (j < i))

-- edge k is a side of three panels
abbrev pub IsThreefold : RawDieline → ℕ → Type 0
IsThreefold d k = (f g h : ℕ) × (f < g) × (g < h) × IsSide d k f × IsSide d k g × IsSide d k h

-- two panels go along edge k in the same direction
abbrev pub IsOneWay : RawDieline → ℕ → Type 0
IsOneWay d k = (f g p q : ℕ) × (f < g) × GoesAlong d k f p q × GoesAlong d k g p q

-- edge k is a joint that is parallel to no axis
abbrev pub IsSlantedJoint : RawDieline → ℕ → Type 0
IsSlantedJoint d k = IsJoint d k × IsSlanted d k

-- joints of smaller number already join the two panels of joint k
abbrev pub IsLoop : RawDieline → ℕ → Type 0
IsLoop d k = (f g : ℕ) × IsJointOf d k f g × AreJoined (IsJointOf d) k f g

-- no chain of joints leads from panel p to the root
abbrev pub IsApart : RawDieline → ℕ → ℕ → Type 0
IsApart d root p = (p < length d.faces) × ¬ (LeadsTo d p root)

-- more than 8 joints lead from panel p to the root
abbrev pub IsDeep : RawDieline → ℕ → ℕ → Type 0
IsDeep d root p = (p < length d.faces) × ¬ (LeadsNear d p root)

-- every face is a panel
abbrev pub KeepsPanels : ℕ → RawDieline → Type 0
KeepsPanels m d = ArePanels m d (length d.faces)

-- the rules of edges, up to each one: every side is an edge
abbrev pub KeepsSides : RawDieline → Type 0
KeepsSides d = (f i : ℕ) → ¬ (IsBare d f i)

-- and no edge is a side of three panels
abbrev pub KeepsEdges : RawDieline → Type 0
KeepsEdges d = KeepsSides d × Never (IsThreefold d)

-- and panels pass an edge both ways
abbrev pub KeepsWays : RawDieline → Type 0
KeepsWays d = KeepsEdges d × Never (IsOneWay d)

-- and each joint is parallel to an axis
abbrev pub KeepsAxes : RawDieline → Type 0
KeepsAxes d = KeepsWays d × Never (IsSlantedJoint d)

-- the rules of the tree, up to each one: no joints make a loop
abbrev pub KeepsOpen : RawDieline → Type 0
KeepsOpen d = Never (IsLoop d)

-- and there is a root
abbrev pub KeepsRoot : RawDieline → ℕ → Type 0
KeepsRoot d root = KeepsOpen d × (root < length d.faces)

-- and joints lead from every panel to it
abbrev pub KeepsWhole : RawDieline → ℕ → Type 0
KeepsWhole d root = KeepsRoot d root × Never (IsApart d root)

-- and they are at most 8
abbrev pub KeepsShallow : RawDieline → ℕ → Type 0
KeepsShallow d root = KeepsWhole d root × Never (IsDeep d root)
