-- Panels on the way between two are panels of the carton: who looks in the frame of each has looked in all.
use Rattle.std.proofs.Common.{ℕ, zero, suc, ◌<◌, List, [], length, inl, inr, Option, None, Some, arith, subst}
use Rattle.std.proofs.Common.{ℤ, ◌≡◌, ◌≤◌}
use Rattle.std.specs.Prelude.{All, IfSome}
use Rattle.std.proofs.lemmas.List.Elements.{All-nil, All-cons}
use Rattle.carton_base.specs.declared.ids.PanelId.{PanelId}
use Rattle.carton_base.specs.declared.motion.Motion.{Motion}
use Rattle.carton_reach.specs.Reaches.{Within}
use Rattle.carton_tree.specs.declared.joint.Joint.{Joint}
use Rattle.carton_tree.specs.Cartons.{IsCarton}
use Rattle.carton_tree.specs.Trees.{Tree, AreParents, beyond, joint_of, path, path_by}
use Rattle.carton_tree.proofs.Meeting.{parents_in}
use Rattle.carton_part.specs.Answers.{AreUnpartedAt, AreUnpartedIn}
use Rattle.carton_part.specs.Frames.{IsOnPath, IsFrame}

panels_on : (n : ℕ) (js : List (Option Joint)) (p : ℕ) → AreParents js → p < length js
    → All (λ (q : PanelId). q.0 < length js) (path_by n js p)
unfolding path_by
panels_on zero js p h lt = All-cons (λ (q : PanelId). q.0 < length js) (record { 0 = p }) [] lt
    (All-nil (λ (q : PanelId). q.0 < length js))
panels_on (suc n) js p h lt =
    All-cons (λ (q : PanelId). q.0 < length js) (record { 0 = p })
    (beyond (λ j. path_by n js j.parent.0) (joint_of js p)) lt
    (at (joint_of js p) (h p) (λ q l. panels_on n js q h l))
  where
    at : (o : Option Joint) → IfSome o (λ j. j.parent.0 < length js)
        → ((q : ℕ) → q < length js → All (λ (q : PanelId). q.0 < length js) (path_by n js q))
        → All (λ (q : PanelId). q.0 < length js) (beyond (λ j. path_by n js j.parent.0) o)
    at None j go = All-nil (λ (q : PanelId). q.0 < length js)
    at (Some x) j go = go x.parent.0 j

-- a panel on a path
pub on_path : (t : Tree) (p f : ℕ) → IsCarton t → p < length t.panels → IsOnPath t p f → f < length t.panels
unfolding path
on_path t p f h lt on =
    let all = panels_on 8 t.joints p (parents_in t h) (omega (arith, h.joints, lt)) in
    let at : f < length t.joints =
    subst (λ (q : PanelId). q.0 < length t.joints) on.2 (all on.0 (record { 0 = f }) on.1) in
    omega (arith, h.joints, at)

-- a frame of two panels
pub frame_in : (t : Tree) (a b f : ℕ) → IsCarton t → a < length t.panels → b < length t.panels
    → IsFrame t a b f → f < length t.panels
frame_in t a b f h ha hb i = elim i.way.above [
  | inl on ↦ on_path t a f h ha on
  | inr on ↦ on_path t b f h hb on
]

-- the frames of a and b below k don't part them well at any moment of the piece
abbrev pub UnpartedBelow : Tree → Motion → ℕ → ℕ → ℤ → ℕ → ℕ → ℕ → ℕ → Type 0
UnpartedBelow t motion a b gap slack index depth k = (f : ℕ) → f < k → IsFrame t a b f
    → Within index depth (AreUnpartedIn t motion a b gap slack f)

pub unparted_all : (t : Tree) (motion : Motion) (a b : ℕ) (gap : ℤ) (slack index depth k count : ℕ)
    → IsCarton t
    → a < length t.panels → b < length t.panels → count ≡ length t.panels → count ≤ k
    → UnpartedBelow t motion a b gap slack index depth k
    → Within index depth (AreUnpartedAt t motion a b gap slack)
unparted_all t motion a b gap slack index depth k count h ha hb is le all n d m i parted =
    let lt = frame_in t a b parted.0 h ha hb parted.1 in
    all parted.0 (omega (arith, lt, is, le)) parted.1 n d m i parted.2
