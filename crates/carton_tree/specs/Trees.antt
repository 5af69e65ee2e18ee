-- A carton as a tree of panels: parents, paths to the root, and the turns on the way.
use Rattle.std.specs.Prelude.{◌≡◌, ◌⊎◌, ℕ, zero, suc, ◌<◌, List, [], ◌∷◌, ◌++◌, length, map, take, reverse}
use Rattle.std.specs.Prelude.{Bool, nat_eq, if◌then◌else◌, Option, None, Some, IfSome, IsSomeAnd}
use Rattle.std.specs.Prelude.{slice_index_or}
use Rattle.std.specs.List.{list_any}
use Rattle.carton_base.specs.declared.ids.EdgeId.{EdgeId}
use Rattle.carton_base.specs.declared.ids.PanelId.{PanelId}
use Rattle.carton_base.specs.declared.limits.TheConstants.{LONGEST_PATH}
use Rattle.carton_base.specs.declared.motion.Turn.{Turn}
use Rattle.carton_model.specs.Turning.{turned_back}
use Rattle.carton_panels.specs.Shapes.{Shape}
use Rattle.carton_tree.specs.declared.joint.Joint.{Joint}
use Rattle.carton_tree.specs.declared.route.Route.{Route}
use Rattle.carton_tree.specs.Rules.{IsLeast}

-- the panels of a carton, its root, for each panel the joint to its parent, and the free joints in the order
-- of their edges
pub record Tree : Type 0 where
  pub panels : List Shape
  pub root : ℕ
  pub joints : List (Option Joint)
  pub creases : List EdgeId

-- the joint of panel p to its parent
abbrev pub joint_of : List (Option Joint) → ℕ → Option Joint
joint_of joints p = slice_index_or joints p None

-- panel p is the parent of panel c
abbrev pub IsParent : Tree → ℕ → ℕ → Type 0
IsParent t p c = IsSomeAnd (joint_of t.joints c) (λ j. j.parent.0 ≡ p)

-- one of the two panels is the other's parent
abbrev pub SharesCrease : Tree → ℕ → ℕ → Type 0
SharesCrease t a b = IsParent t a b ⊎ IsParent t b a

-- edge e is the joint of panel c to its parent
abbrev pub Hangs : List (Option Joint) → ℕ → ℕ → Type 0
Hangs joints e c = IsSomeAnd (joint_of joints c) (λ j. j.edge.0 ≡ e)

-- what is told of the panel that edge e hangs from its parent
abbrev pub IsChild : List (Option Joint) → ℕ → Option PanelId → Type 0
IsChild joints e None = (c : ℕ) → ¬ (Hangs joints e c)
IsChild joints e (Some p) = IsLeast (Hangs joints e) p.0

-- parents are panels too
abbrev pub AreParents : List (Option Joint) → Type 0
AreParents joints = (p : ℕ) → IfSome (joint_of joints p) (λ j. j.parent.0 < length joints)

-- what a joint leads to, and nothing where there is none
abbrev pub beyond : {A : Type 0} → (Joint → List A) → Option Joint → List A
beyond f None = []
beyond f (Some j) = f j

-- the panels from p towards the root, p first, over at most n joints
unfoldable pub path_by : ℕ → List (Option Joint) → ℕ → List PanelId
path_by zero joints p = (record { 0 = p }) ∷ []
path_by (suc n) joints p = (record { 0 = p }) ∷ beyond (λ j. path_by n joints j.parent.0) (joint_of joints p)

-- the path of panel p: p first, its parent next, the root last
unfoldable pub path : List (Option Joint) → ℕ → List PanelId
path joints p = path_by LONGEST_PATH joints p

-- the turns of the joints on the path of panel p, p's own first, over at most n joints
unfoldable pub turns_by : ℕ → List (Option Joint) → ℕ → List Turn
turns_by zero joints p = []
turns_by (suc n) joints p = beyond (λ j. j.turn ∷ turns_by n joints j.parent.0) (joint_of joints p)

-- how many panels of the list come before the frame
abbrev pub steps_to : ℕ → List PanelId → ℕ
steps_to frame [] = 0
steps_to frame (p ∷ ps) = if nat_eq p.0 frame then 0 else suc (steps_to frame ps)

-- the turns from panel p up to a frame on its path: one for each panel before the frame
unfoldable pub turns_up : List (Option Joint) → ℕ → ℕ → List Turn
turns_up joints p frame = take (steps_to frame (path joints p)) (turns_by LONGEST_PATH joints p)

-- the panel is one of the list
abbrev pub is_among : PanelId → List PanelId → Bool
is_among p ps = list_any (λ q. nat_eq q.0 p.0) ps

-- the first panel of one list that is in another too
abbrev pub first_shared : List PanelId → List PanelId → Option PanelId
first_shared [] qs = None
first_shared (p ∷ ps) qs = if is_among p qs then Some p else first_shared ps qs

-- the number of that panel, or else of the root
abbrev pub number_or : ℕ → Option PanelId → ℕ
number_or root None = root
number_or root (Some p) = p.0

-- the parting panel: the deepest on both paths, which is the first on the one path that the other has too
unfoldable pub parting : Tree → ℕ → ℕ → ℕ
parting t a b = number_or t.root (first_shared (path t.joints a) (path t.joints b))

-- the turns of a flat point of panel p into a frame: up to the deepest panel on both paths, and from there
-- down, each
-- turn the other way
unfoldable pub turns_between : Tree → ℕ → ℕ → List Turn
turns_between t p frame = let top = parting t p frame in
    turns_up t.joints p top ++ reverse (map turned_back (turns_up t.joints frame top))

-- what is told of the turns into a frame: they, or that there are more than 8
abbrev pub IsRoute : List Turn → Option Route → Type 0
IsRoute turns None = LONGEST_PATH < length turns
IsRoute turns (Some r) = (r.count ≡ length turns) × (take r.count r.turns ≡ turns)
