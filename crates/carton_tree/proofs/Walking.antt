-- Going up a path, joint by joint.
use Rattle.std.proofs.Common.{◌≡◌, ℕ, suc, ◌+◌, ◌-◌, ◌<◌, ◌≤◌, List, [], ◌∷◌, ◌++◌, length, get_or, Option}
use Rattle.std.proofs.Common.{Some, None, sym, ◌∙◌, ap, subst, arith}
use Rattle.std.specs.Prelude.{IfSome}
use Rattle.std.proofs.lemmas.List.{append_assoc, append-nil, get_or_default}
use Rattle.carton_base.specs.declared.ids.PanelId.{PanelId}
use Rattle.carton_base.specs.declared.limits.TheConstants.{LONGEST_PATH}
use Rattle.carton_base.specs.declared.motion.Turn.{Turn}
use Rattle.carton_tree.specs.declared.joint.Joint.{Joint}
use Rattle.carton_tree.specs.Trees.{AreParents, joint_of, beyond, path_by, turns_by}

path_beyond : (n m : ℕ) (js : List (Option Joint)) (p : PanelId) → n ≡ suc m
    → path_by n js p.0 ≡ p ∷ beyond (λ j. path_by m js j.parent.0) (joint_of js p.0)
unfolding path_by
path_beyond n m js p e = ap (λ k. path_by k js p.0) e

turns_beyond : (n m : ℕ) (js : List (Option Joint)) (p : ℕ) → n ≡ suc m
    → turns_by n js p ≡ beyond (λ j. j.turn ∷ turns_by m js j.parent.0) (joint_of js p)
unfolding turns_by
turns_beyond n m js p e = ap (λ k. turns_by k js p) e

-- a panel that hangs by a joint leads to another
pub step_up : (js : List (Option Joint)) (p : ℕ) (d : Option Joint) (j : Joint) → AreParents js
    → p < length js → get_or js p d ≡ Some j → (joint_of js p ≡ Some j) × (j.parent.0 < length js)
step_up js p d j parents lt is =
    let here : joint_of js p ≡ Some j = get_or_default js p None d lt ∙ is in
    (here, subst (λ o. IfSome o (λ (j : Joint). j.parent.0 < length js)) here (parents p))

-- one panel more of the path, where a joint leads on
pub path_on : (found whole : List PanelId) (js : List (Option Joint)) (at : PanelId) (j : Joint) (i : ℕ)
    → i < LONGEST_PATH → joint_of js at.0 ≡ Some j → found ++ path_by (LONGEST_PATH - i) js at.0 ≡ whole
    → (found ++ at ∷ []) ++ path_by (LONGEST_PATH - (i + 1)) js j.parent.0 ≡ whole
path_on found whole js at j i lt is h =
    append_assoc found (at ∷ []) (path_by (LONGEST_PATH - (i + 1)) js j.parent.0)
    ∙ ap (λ rest. found ++ rest)
    (sym (path_beyond (LONGEST_PATH - i) (LONGEST_PATH - (i + 1)) js at (omega arith)
    ∙ ap (λ o. at ∷ beyond (λ j. path_by (LONGEST_PATH - (i + 1)) js j.parent.0) o) is))
    ∙ h

-- and where none does
pub path_ends : (found whole : List PanelId) (js : List (Option Joint)) (at : PanelId) (i : ℕ)
    → i < LONGEST_PATH → joint_of js at.0 ≡ None → found ++ path_by (LONGEST_PATH - i) js at.0 ≡ whole
    → found ++ at ∷ [] ≡ whole
path_ends found whole js at i lt is h =
    ap (λ rest. found ++ rest)
    (sym (path_beyond (LONGEST_PATH - i) (LONGEST_PATH - (i + 1)) js at (omega arith)
    ∙ ap (λ o. at ∷ beyond (λ j. path_by (LONGEST_PATH - (i + 1)) js j.parent.0) o) is)) ∙ h

-- after as many joints as a path may have
pub path_full : (found whole : List PanelId) (js : List (Option Joint)) (at : PanelId) (i : ℕ)
    → LONGEST_PATH ≤ i → found ++ path_by (LONGEST_PATH - i) js at.0 ≡ whole → found ++ at ∷ [] ≡ whole
unfolding path_by
path_full found whole js at i le h =
    let none : 0 ≡ LONGEST_PATH - i = omega arith in
    ap (λ n. found ++ path_by n js at.0) none ∙ h

pub turns_on : (found whole : List Turn) (js : List (Option Joint)) (at : ℕ) (j : Joint) (i : ℕ)
    → i < LONGEST_PATH → joint_of js at ≡ Some j → found ++ turns_by (LONGEST_PATH - i) js at ≡ whole
    → (found ++ j.turn ∷ []) ++ turns_by (LONGEST_PATH - (i + 1)) js j.parent.0 ≡ whole
turns_on found whole js at j i lt is h =
    append_assoc found (j.turn ∷ []) (turns_by (LONGEST_PATH - (i + 1)) js j.parent.0)
    ∙ ap (λ rest. found ++ rest)
    (sym (turns_beyond (LONGEST_PATH - i) (LONGEST_PATH - (i + 1)) js at (omega arith)
    ∙ ap (beyond (λ j. j.turn ∷ turns_by (LONGEST_PATH - (i + 1)) js j.parent.0)) is))
    ∙ h

pub turns_end : (found whole : List Turn) (js : List (Option Joint)) (at i : ℕ) → i < LONGEST_PATH
    → joint_of js at ≡ None → found ++ turns_by (LONGEST_PATH - i) js at ≡ whole → found ≡ whole
turns_end found whole js at i lt is h =
    sym (append-nil found)
    ∙ ap (λ rest. found ++ rest)
    (sym (turns_beyond (LONGEST_PATH - i) (LONGEST_PATH - (i + 1)) js at (omega arith)
    ∙ ap (beyond (λ j. j.turn ∷ turns_by (LONGEST_PATH - (i + 1)) js j.parent.0)) is)) ∙ h

pub turns_full : (found whole : List Turn) (js : List (Option Joint)) (at i : ℕ) → LONGEST_PATH ≤ i
    → found ++ turns_by (LONGEST_PATH - i) js at ≡ whole → found ≡ whole
unfolding turns_by
turns_full found whole js at i le h =
    let none : 0 ≡ LONGEST_PATH - i = omega arith in
    sym (append-nil found) ∙ ap (λ n. found ++ turns_by n js at) none ∙ h
