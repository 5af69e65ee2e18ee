-- What the steps from a dieline to its carton make on the way: the edges of each face, the panels beside each
-- edge, the
-- joints in order, the groups that they join, and how each panel hangs.
use Rattle.std.specs.Prelude.{⊤, ◌≡◌, ◌⊎◌, ◌↔◌, ℕ, suc, ◌+◌, nat_eq, if◌then◌else◌, ◌<◌, ◌≤◌, List, length}
use Rattle.std.specs.Prelude.{All, AllPairs, Any, Contains, IsTrue, Option, None, Some, IfSome, IsSome}
use Rattle.std.specs.Prelude.{IsSomeAnd, slice_index_or}
use Rattle.std.specs.List.{HoldsAt}
use Rattle.carton_base.specs.declared.dieline.RawDieline.{RawDieline}
use Rattle.carton_base.specs.declared.dieline.Ends.{Ends}
use Rattle.carton_base.specs.declared.ids.EdgeId.{EdgeId}
use Rattle.carton_base.specs.declared.ids.PanelId.{PanelId}
use Rattle.carton_base.specs.declared.limits.TheConstants.{MOST_PANELS}
use Rattle.carton_panels.specs.Around.{Step, around}
use Rattle.carton_panels.specs.Creases.{HasEnds, IsFirstEdge}
use Rattle.carton_tree.specs.Joints.{vertices_of, edge_at, GoesFrom, IsSide, IsJointOf, IsJoint, IsFree}
use Rattle.carton_tree.specs.Joints.{IsPlace, IsUpright, across, from_of, IsTurnOf}
use Rattle.carton_model.specs.Turning.{IsTurn}
use Rattle.carton_tree.specs.Chains.{IsChain, AreJoined}
use Rattle.carton_tree.specs.Rules.{IsLeast, Never}
use Rattle.carton_tree.specs.Trees.{joint_of}
use Rattle.carton_tree.specs.declared.joint.Joint.{Joint}
use Rattle.carton_tree.specs.declared.besides.Beside.{Beside}
use Rattle.carton_tree.specs.declared.besides.Beside.TheVariants.{Nobody, One, Two, More}
use Rattle.carton_tree.specs.declared.hinges.Hinge.{Hinge}
use Rattle.carton_tree.specs.declared.spots.Spot.{Spot}

-- what is told of the first edge between two vertices
abbrev pub IsEdgeAnswer : List Ends → ℕ → ℕ → Option EdgeId → Type 0
IsEdgeAnswer edges p q None = ¬ (Any (λ e. HasEnds e p q) edges)
IsEdgeAnswer edges p q (Some e) = IsFirstEdge edges e.0 p q

-- what is told of the least edge with P
abbrev pub IsLeastEdge : (ℕ → Type 0) → Option EdgeId → Type 0
IsLeastEdge P None = Never P
IsLeastEdge P (Some e) = IsLeast P e.0

-- and of the least panel with P
abbrev pub IsLeastPanel : (ℕ → Type 0) → Option PanelId → Type 0
IsLeastPanel P None = Never P
IsLeastPanel P (Some p) = IsLeast P p.0

-- the edges that the first sides of panel f are, in their order
pub record AreFirstSides (d : RawDieline) (f : ℕ) (es : List EdgeId) : Type 0 where
  pub few : length es ≤ length (around (vertices_of d f))
  pub each : (i : ℕ) (s : Step ℕ) (e : EdgeId) → i < length es
      → IsFirstEdge d.edges (slice_index_or es i e).0 (slice_index_or (around (vertices_of d f)) i s).from
      (slice_index_or (around (vertices_of d f)) i s).to

-- the edges that all its sides are
pub record AreSides (d : RawDieline) (f : ℕ) (es : List EdgeId) : Type 0 where
  pub sides : AreFirstSides d f es
  pub whole : length es ≡ length (around (vertices_of d f))

-- the edges of the sides of the first panels
pub record AreAllSides (d : RawDieline) (all : List (List EdgeId)) : Type 0 where
  pub few : length all ≤ length d.faces
  pub each : (f : ℕ) (es : List EdgeId) → f < length all → AreSides d f (slice_index_or all f es)

-- which of the first n panels have P: none, one, two, or more
abbrev pub IsBeside : (ℕ → Type 0) → ℕ → Beside → Type 0
IsBeside P n Nobody = (h : ℕ) → h < n → ¬ (P h)
IsBeside P n (One f) = (f.0 < n) × P f.0 × ((h : ℕ) → h < n → P h → h ≡ f.0)
IsBeside P n (Two f g) = (f.0 < g.0) × (g.0 < n) × P f.0 × P g.0
    × ((h : ℕ) → h < n → P h → (h ≡ f.0) ⊎ (h ≡ g.0))
IsBeside P n More = (f g h : ℕ) × (f < g) × (g < h) × (h < n) × P f × P g × P h

-- what is known with one panel more that has P
abbrev pub with_next : Beside → PanelId → Beside
with_next Nobody p = One p
with_next (One f) p = Two f p
with_next (Two f g) p = More
with_next More p = More

-- the panels beside each of the first edges
pub record AreBesides (d : RawDieline) (all : List Beside) : Type 0 where
  pub few : length all ≤ length d.edges
  pub each : (k : ℕ) (b : Beside) → k < length all
      → IsBeside (IsSide d k) (length d.faces) (slice_index_or all k b)

-- two panels are those, one way or the other
abbrev pub AreThose : ℕ → ℕ → ℕ → ℕ → Type 0
AreThose p q f g = ((p ≡ f) × (q ≡ g)) ⊎ ((p ≡ g) × (q ≡ f))

-- edge k joins these two panels, and no others
pub record IsPair (d : RawDieline) (k f g : ℕ) : Type 0 where
  pub joins : IsJointOf d k f g
  pub only : (p q : ℕ) → IsJointOf d k p q → AreThose p q f g

-- what is told of the two panels that an edge joins
abbrev pub IsPairAnswer : RawDieline → ℕ → Option (PanelId × PanelId) → Type 0
IsPairAnswer d k None = ¬ (IsJoint d k)
IsPairAnswer d k (Some pair) = IsPair d k pair.0.0 pair.1.0

-- two panels go along edge k in the same direction, one way or the other
abbrev pub GoBoth : RawDieline → ℕ → ℕ → ℕ → Type 0
GoBoth d k f g = let e = edge_at d k in (GoesFrom d f e.p e.q × GoesFrom d g e.p e.q)
    ⊎ (GoesFrom d f e.q e.p × GoesFrom d g e.q e.p)

-- a joint of the dieline between two panels, the place that it has, and its line
pub record IsHinge (d : RawDieline) (creases : List EdgeId) (h : Hinge) : Type 0 where
  pub pair : IsPair d h.edge.0 h.first.0 h.second.0
  pub place : IsPlace d creases h.edge.0 h.crease
  pub upright : IsTrue h.upright ↔ IsUpright d h.edge.0
  pub at : h.at ≡ across h.upright (from_of d h.edge.0)

-- the free joints of numbers below k
pub record AreCreasesBelow (d : RawDieline) (k : ℕ) (creases : List EdgeId) : Type 0 where
  pub ordered : AllPairs (λ a b. a.0 < b.0) creases
  pub below : All (λ e. e.0 < k) creases
  pub free : All (λ e. IsFree d e.0) creases
  pub whole : (j : ℕ) → j < k → IsFree d j → Contains creases (record { 0 = j })

-- the joints of numbers below k, in their order
pub record AreHinges (d : RawDieline) (k : ℕ) (creases : List EdgeId) (hinges : List Hinge) : Type 0 where
  pub ordered : AllPairs (λ a b. a.edge.0 < b.edge.0) hinges
  pub below : All (λ h. h.edge.0 < k) hinges
  pub each : All (IsHinge d creases) hinges
  pub whole : (j : ℕ) → j < k → IsJoint d j → Any (λ h. h.edge.0 ≡ j) hinges
  pub few : length creases ≤ length hinges

-- the joint at a place of the list joins panel f to panel g
abbrev pub HingeJoins : List Hinge → ℕ → ℕ → ℕ → Type 0
HingeJoins hinges i f g = (i < length hinges) × HoldsAt (λ h. AreThose f g h.first.0 h.second.0) hinges i

-- joints before place k join the two panels of the joint there
abbrev pub ClosesLoop : List Hinge → ℕ → Type 0
ClosesLoop hinges k = (f g : ℕ) × HingeJoins hinges k f g × AreJoined (HingeJoins hinges) k f g

-- no joint before place n closes a loop
abbrev pub AreOpen : List Hinge → ℕ → Type 0
AreOpen hinges n = (k : ℕ) → k < n → ¬ (ClosesLoop hinges k)

-- the first joint that closes a loop has this edge
abbrev pub IsFirstLoop : List Hinge → EdgeId → Type 0
IsFirstLoop hinges e = (k : ℕ) × (k < length hinges) × HoldsAt (λ h. h.edge ≡ e) hinges k
    × ClosesLoop hinges k × AreOpen hinges k

-- the panels of each joint are two of the first n
abbrev pub AreWithin : ℕ → List Hinge → Type 0
AreWithin n hinges = All (λ h. (h.first.0 < n) × (h.second.0 < n)) hinges

-- panels are in one group exactly where joints before place k join them
abbrev pub AreGroups : List Hinge → ℕ → ℕ → List ℕ → Type 0
AreGroups hinges n k groups = (f g : ℕ) → f < n → g < n
    → (slice_index_or groups f 0 ≡ slice_index_or groups g 0) ↔ AreJoined (HingeJoins hinges) k f g

-- how a panel hangs
abbrev pub spot_at : List (Option Spot) → ℕ → Option Spot
spot_at spots p = slice_index_or spots p None

-- n joints lead from panel p to the root
abbrev pub IsWay : List Hinge → ℕ → ℕ → ℕ → Type 0
IsWay hinges root n p = IsChain (HingeJoins hinges) (length hinges) n p root

-- the panel hangs so many joints below the root, and no fewer lead there; all but the root hang from their
-- parents
pub record IsSpot (hinges : List Hinge) (spots : List (Option Spot)) (root p : ℕ) (s : Spot) : Type 0 where
  pub leads : IsWay hinges root s.depth p
  pub least : (n : ℕ) → n < s.depth → ¬ (IsWay hinges root n p)
  pub joins : 0 < s.depth → HingeJoins hinges s.hinge p s.parent.0
  pub parent : 0 < s.depth → IsSomeAnd (spot_at spots s.parent.0) (λ t. suc t.depth ≡ s.depth)

-- where it is known how the panel hangs, it does so, at most r joints below the root
abbrev pub IsKnown : List Hinge → List (Option Spot) → ℕ → ℕ → ℕ → Option Spot → Type 0
IsKnown hinges spots root r p o = IfSome o (λ s. IsSpot hinges spots root p s × (s.depth ≤ r))

-- how the child hangs after a joint to a parent was looked at, where the panels that hang r joints below the
-- root get children
abbrev pub hung_from : Option Spot → Option Spot → PanelId → ℕ → ℕ → Option Spot
hung_from (Some s) above parent hinge r = Some s
hung_from None None parent hinge r = None
hung_from None (Some a) parent hinge r =
    if nat_eq a.depth r then Some (record { depth = r + 1; hinge = hinge; parent = parent }) else None

-- all panels that hang at most r joints below the root are known, and perhaps some that hang one more
pub record AreKnown (hinges : List Hinge) (root r : ℕ) (spots : List (Option Spot)) : Type 0 where
  pub count : length spots ≡ MOST_PANELS
  pub known : (p : ℕ) → IsKnown hinges spots root (r + 1) p (spot_at spots p)
  pub whole : (p n : ℕ) → p < MOST_PANELS → n ≤ r → IsWay hinges root n p → IsSome (spot_at spots p)

-- so are those that hang one more by the first i joints
pub record AreReached (hinges : List Hinge) (root r i : ℕ) (spots : List (Option Spot)) : Type 0 where
  pub known : AreKnown hinges root r spots
  pub reached : (j f g : ℕ) → j < i → f < MOST_PANELS → HingeJoins hinges j f g → IsWay hinges root r g
      → IsSome (spot_at spots f)

-- the panels that hang at most r joints below the root, and no others
pub record AreSpots (hinges : List Hinge) (root r : ℕ) (spots : List (Option Spot)) : Type 0 where
  pub count : length spots ≡ MOST_PANELS
  pub known : (p : ℕ) → IsKnown hinges spots root r p (spot_at spots p)
  pub whole : (p n : ℕ) → p < MOST_PANELS → n ≤ r → IsWay hinges root n p → IsSome (spot_at spots p)

-- the joint by which panel p hangs as the spot says
pub record IsJointBy (d : RawDieline) (creases : List EdgeId) (hinges : List Hinge) (p : ℕ) (s : Spot)
    (j : Joint) : Type 0 where
  pub below : 0 < s.depth
  pub edge : HoldsAt (λ h. j.edge ≡ h.edge) hinges s.hinge
  pub parent : j.parent ≡ s.parent
  pub turn : IsTurnOf d creases j.edge.0 p j.turn
  pub valid : IsTurn j.turn

-- what is told of the joint of panel p to its parent
abbrev pub IsJointAnswer : RawDieline → List EdgeId → List Hinge → ℕ → Option Spot → Option Joint → Type 0
IsJointAnswer d creases hinges p None None = ⊤
IsJointAnswer d creases hinges p None (Some j) = ⊥
IsJointAnswer d creases hinges p (Some s) None = s.depth ≡ 0
IsJointAnswer d creases hinges p (Some s) (Some j) = IsJointBy d creases hinges p s j

-- the joints of the panels to their parents
pub record AreJoints (d : RawDieline) (creases : List EdgeId) (hinges : List Hinge)
    (spots : List (Option Spot)) (joints : List (Option Joint)) : Type 0 where
  pub few : length joints ≤ length d.faces
  pub each : (p : ℕ) → p < length joints
      → IsJointAnswer d creases hinges p (spot_at spots p) (joint_of joints p)
