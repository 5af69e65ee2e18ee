-- What is answered of a dieline: the carton, or the first rule that it breaks.
use Rattle.std.specs.Prelude.{⊤, ◌⊎◌, ◌≡◌, ◌≢◌, ℕ, ◌<◌, ◌≤◌, length, IsSomeAnd, Result, Ok, Err}
use Rattle.carton_base.specs.declared.dieline.RawDieline.{RawDieline}
use Rattle.carton_base.specs.declared.ids.PanelId.{PanelId}
use Rattle.carton_panels.specs.declared.error.PanelError.{PanelError}
use Rattle.carton_panels.specs.declared.error.PanelError.TheVariants.{Memory as NoMemoryForPanel}
use Rattle.carton_panels.specs.Answers.{IsPanelAnswer}
use Rattle.carton_panels.specs.DielinePanels.{panel_places, ArePanels, AreShapes}
use Rattle.carton_tree.specs.declared.error.TreeError.{TreeError}
use Rattle.carton_tree.specs.declared.error.TreeError.TheVariants.{Panel, SideNoEdge, ThreeFaces, SameSide}
use Rattle.carton_tree.specs.declared.error.TreeError.TheVariants.{Slanted, Loop, NoRoot, Apart, TooDeep}
use Rattle.carton_tree.specs.declared.error.TreeError.TheVariants.{Memory}
use Rattle.carton_tree.specs.declared.joint.Joint.{Joint}
use Rattle.carton_tree.specs.Cartons.{IsCarton}
use Rattle.carton_tree.specs.Joints.{IsJoint, IsJointOf, IsTurnOf, AreCreases}
use Rattle.carton_tree.specs.Rules.{IsLeast, IsBare, IsSooner, IsThreefold, IsOneWay, IsSlantedJoint, IsLoop}
use Rattle.carton_tree.specs.Rules.{IsApart, IsDeep, KeepsPanels, KeepsSides, KeepsEdges, KeepsWays}
use Rattle.carton_tree.specs.Rules.{KeepsAxes, KeepsOpen, KeepsRoot, KeepsWhole, KeepsShallow}
use Rattle.carton_tree.specs.Trees.{Tree, joint_of, Hangs}

-- panel p hangs by this joint: its edge joins p to the parent, and turns p
pub record IsHungBy (d : RawDieline) (t : Tree) (p : ℕ) (j : Joint) : Type 0 where
  pub joins : IsJointOf d j.edge.0 p j.parent.0
  pub turn : IsTurnOf d t.creases j.edge.0 p j.turn

-- the tree of the dieline's panels at this margin, from the start as root: all joints of the dieline, and no
-- others, hang its panels
pub record IsTreeOf (m : ℕ) (d : RawDieline) (start : ℕ) (t : Tree) : Type 0 where
  pub shapes : AreShapes m d t.panels
  pub panels : length t.panels ≡ length d.faces
  pub root : t.root ≡ start
  pub creases : AreCreases d t.creases
  pub hung : (p : ℕ) → p < length d.faces → p ≢ start → IsSomeAnd (joint_of t.joints p) (IsHungBy d t p)
  pub hangs : (e : ℕ) → IsJoint d e → (p : ℕ) × (p < length d.faces) × Hangs t.joints e p
  pub carton : IsCarton t

-- the first face that is no panel breaks this rule
abbrev pub IsFirstRefused : ℕ → RawDieline → PanelError → Type 0
IsFirstRefused m d e = (a : PanelId) × (a.0 < length d.faces) × ArePanels m d a.0
    × IsPanelAnswer a m (panel_places d a.0) (Err e) × (e ≢ NoMemoryForPanel)

-- why the faces are no panels
abbrev pub IsPanelsAnswer : ℕ → RawDieline → TreeError → Type 0
IsPanelsAnswer m d Memory = ⊤
IsPanelsAnswer m d (Panel e) = IsFirstRefused m d e
IsPanelsAnswer m d e = ⊥

-- why the edges make no joints: the first rule that fails, and those before it don't
abbrev pub IsEdgesAnswer : RawDieline → TreeError → Type 0
IsEdgesAnswer d Memory = ⊤
IsEdgesAnswer d (SideNoEdge f i) = IsBare d f.0 i × ((g j : ℕ) → IsSooner g j f.0 i → ¬ (IsBare d g j))
IsEdgesAnswer d (ThreeFaces e) = KeepsSides d × IsLeast (IsThreefold d) e.0
IsEdgesAnswer d (SameSide e) = KeepsEdges d × IsLeast (IsOneWay d) e.0
IsEdgesAnswer d (Slanted e) = KeepsWays d × IsLeast (IsSlantedJoint d) e.0
IsEdgesAnswer d e = ⊥

-- why the joints make no tree
abbrev pub IsHungAnswer : RawDieline → ℕ → TreeError → Type 0
IsHungAnswer d root (Loop e) = IsLeast (IsLoop d) e.0
IsHungAnswer d root (NoRoot r) = KeepsOpen d × (r ≡ root) × (length d.faces ≤ root)
IsHungAnswer d root (Apart p) = KeepsRoot d root × IsLeast (IsApart d root) p.0
IsHungAnswer d root (TooDeep p) = KeepsWhole d root × IsLeast (IsDeep d root) p.0
IsHungAnswer d root e = ⊥

-- the answer for a dieline, a margin and a root: the tree where all rules are kept, else the first that isn't
abbrev pub IsTreeAnswer : ℕ → RawDieline → ℕ → Result Tree TreeError → Type 0
IsTreeAnswer m d root (Ok t) = KeepsPanels m d × KeepsAxes d × KeepsShallow d root × IsTreeOf m d root t
IsTreeAnswer m d root (Err e) = IsPanelsAnswer m d e ⊎ (KeepsPanels m d × IsEdgesAnswer d e)
    ⊎ (KeepsPanels m d × KeepsAxes d × IsHungAnswer d root e)
