-- What holds of every carton, and of the coordinates that it keeps.
use Rattle.std.specs.Prelude.{◌≡◌, ◌≢◌, ℕ, ◌<◌, ◌≤◌, List, length, None, IsSomeAnd, Some, slice_index_or}
use Rattle.std.specs.Prelude.{unsigned_abs}
use Rattle.std.specs.List.{AllZip, last_or}
use Rattle.smallvec.specs.SmallVec.{SmallVec}
use Rattle.carton_base.specs.Fractions.{IsRounded}
use Rattle.carton_base.specs.declared.ids.PanelId.{PanelId}
use Rattle.carton_base.specs.declared.motion.Turn.{Turn}
use Rattle.carton_base.specs.declared.numbers.Triple.{Triple}
use Rattle.carton_base.specs.declared.limits.TheConstants.{MOST_PANELS, MOST_JOINTS, LONGEST_PATH}
use Rattle.carton_model.specs.Turning.{IsTurn}
use Rattle.carton_panels.specs.Shapes.{Shape}
use Rattle.carton_tree.specs.declared.joint.Joint.{Joint}
use Rattle.carton_tree.specs.declared.start.Start.{Start}
use Rattle.carton_tree.specs.Trees.{Tree, joint_of, path, turns_by}

-- a joint of a carton with so many panels
pub record IsJointIn (panels : ℕ) (j : Joint) : Type 0 where
  pub parent : j.parent.0 < panels
  pub turn : IsTurn j.turn

-- a tree of panels: all but the root hang by joints, and every path ends at the root
pub record IsCarton (t : Tree) : Type 0 where
  pub few : length t.panels ≤ MOST_PANELS
  pub few_creases : length t.creases ≤ MOST_JOINTS
  pub joints : length t.joints ≡ length t.panels
  pub root : t.root < length t.panels
  pub top : joint_of t.joints t.root ≡ None
  pub others : (p : ℕ) → p < length t.panels → p ≢ t.root
      → IsSomeAnd (joint_of t.joints p) (IsJointIn (length t.panels))
  pub ends : (p : ℕ) → p < length t.panels → last_or None (path t.joints p) ≡ Some (record { 0 = t.root })

-- the bounds of both coordinates of the flat point
pub record IsStart (t : Triple) (s : Start) : Type 0 where
  pub x : IsRounded t.x (unsigned_abs t.w) s.x.lo s.x.hi
  pub y : IsRounded t.y (unsigned_abs t.w) s.y.lo s.y.hi

-- those of each of the flat points
abbrev pub AreStarts : List Triple → List Start → Type 0
AreStarts = AllZip IsStart

-- the panels of a path
abbrev pub panels_of : SmallVec PanelId → List PanelId
panels_of path = path.items

-- what a carton keeps of its first n panels: where the shrunk corners stand, the paths, and the turns on them
pub record AreKept (t : Tree) (n : ℕ) (starts : List (List Start)) (paths : List (SmallVec PanelId))
    (turns : List (List Turn)) : Type 0 where
  pub starts_of : length starts ≡ n
  pub paths_of : length paths ≡ n
  pub turns_of : length turns ≡ n
  pub start : (p : ℕ) (s : Shape) (d : List Start) → p < n
      → AreStarts (slice_index_or t.panels p s).shrunk (slice_index_or starts p d)
  pub path : (p : ℕ) (d : SmallVec PanelId) → p < n → panels_of (slice_index_or paths p d) ≡ path t.joints p
  pub turn : (p : ℕ) (d : List Turn) → p < n → slice_index_or turns p d ≡ turns_by LONGEST_PATH t.joints p
