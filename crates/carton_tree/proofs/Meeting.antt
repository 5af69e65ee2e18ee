-- Panels that two paths share, and the turns below them.
use Rattle.std.proofs.Common.{◌≡◌, ℕ, zero, suc, ◌<◌, ◌≤◌, inl, inr, true, false, cond, nat_eq, List, [], ◌∷◌}
use Rattle.std.proofs.Common.{length, get_or, Option, Some, None, refl, sym, ◌∙◌, ap, subst, arith}
use Rattle.std.specs.Prelude.{Contains, All, IfSome, IsSomeAnd}
use Rattle.std.specs.List.{last_or}
use Rattle.std.proofs.lemmas.Bool.{cases_lt, cases_eq, cases_Bool, eqb-true, eq-eqb, both_ways}
use Rattle.std.proofs.lemmas.List.{get_or_default, get_or_past}
use Rattle.std.proofs.lemmas.List.Elements.{All-nil, All-cons}
use Rattle.std.proofs.lemmas.List.Folds.{Any-from_list_any, list_any_at}
use Rattle.std.proofs.lemmas.Option.{same_Some, none-some}
use Rattle.carton_base.specs.declared.ids.PanelId.{PanelId}
use Rattle.carton_base.specs.declared.limits.TheConstants.{LONGEST_PATH}
use Rattle.carton_model.specs.Turning.{IsTurn}
use Rattle.carton_tree.proofs.Ordered.{later_member}
use Rattle.carton_tree.specs.declared.joint.Joint.{Joint}
use Rattle.carton_tree.specs.Trees.{Tree, joint_of, beyond, path, path_by, turns_by, steps_to, is_among}
use Rattle.carton_tree.specs.Trees.{first_shared, AreParents}
use Rattle.carton_tree.specs.Cartons.{IsCarton, IsJointIn}

among : (p : PanelId) (qs : List PanelId) → is_among p qs ≡ true → Contains qs p
among p qs e =
    let a = Any-from_list_any (λ (q : PanelId). nat_eq q.0 p.0) qs e in
    let same : a.1 ≡ p = ap (λ n. record { 0 = n }) (eqb-true a.1.0 p.0 a.4) in
    (a.0, a.2, get_or_default qs a.0 p a.1 a.2 ∙ a.3 ∙ same)

among_from : (p : PanelId) (qs : List PanelId) → Contains qs p → is_among p qs ≡ true
among_from p qs h =
    list_any_at (λ (q : PanelId). nat_eq q.0 p.0) qs h.0 p h.1
    (eq-eqb (get_or qs h.0 p).0 p.0 (ap (λ (q : PanelId). q.0) h.2))

later : (p : PanelId) (ps : List PanelId) (x : PanelId) → Contains ps x → Contains (p ∷ ps) x
later p ps x h = (suc h.0, omega (arith, h.1), h.2)

-- a panel told as shared is in both lists
pub shared_in : (ps qs : List PanelId) (x : PanelId) → first_shared ps qs ≡ Some x → Contains ps x
    × Contains qs x
shared_in [] qs x e = absurd (none-some x e)
shared_in (p ∷ ps) qs x e = elim (cases_Bool (is_among p qs)) [
  | inl t ↦
      let same : p ≡ x = same_Some p x (sym (ap (λ b. cond b (Some p) (first_shared ps qs)) t) ∙ e) in
      subst (λ y. Contains (p ∷ ps) y × Contains qs y) same ((0, omega arith, refl), among p qs t)
  | inr f ↦
      let rest = shared_in ps qs x (sym (ap (λ b. cond b (Some p) (first_shared ps qs)) f) ∙ e) in
      (later_member p ps x rest.0, rest.1)
]

-- two lists that share a panel are told to
pub not_unshared : (ps qs : List PanelId) (x : PanelId) (k : ℕ) → first_shared ps qs ≡ None → k < length ps
    → get_or ps k x ≡ x → Contains qs x → ⊥
not_unshared [] qs x k e lt is h = omega (arith, lt)
not_unshared (p ∷ ps) qs x zero e lt is h =
    let t : is_among p qs ≡ true = subst (λ y. is_among y qs ≡ true) (sym is) (among_from x qs h) in
    none-some p (sym e ∙ ap (λ b. cond b (Some p) (first_shared ps qs)) t)
not_unshared (p ∷ ps) qs x (suc k) e lt is h = elim (cases_Bool (is_among p qs)) [
  | inl t ↦ none-some p (sym e ∙ ap (λ b. cond b (Some p) (first_shared ps qs)) t)
  | inr f ↦ not_unshared ps qs x k (sym (ap (λ b. cond b (Some p) (first_shared ps qs)) f) ∙ e)
      (omega (arith, lt)) is h
]

last_after : (y : PanelId) (xs : List PanelId) (x : PanelId) → last_or (Some y) xs ≡ Some x
    → Contains (y ∷ xs) x
last_after y [] x e = (0, omega arith, same_Some y x e)
last_after y (z ∷ zs) x e = later_member y (z ∷ zs) x (last_after z zs x e)

-- the last panel of a list is in it
pub last_in : (xs : List PanelId) (x : PanelId) → last_or None xs ≡ Some x → Contains xs x
last_in [] x e = absurd (none-some x e)
last_in (y ∷ ys) x e = last_after y ys x e

-- fewer panels come before one of the list than the list has
pub steps_in : (frame : PanelId) (ps : List PanelId) (k : ℕ) → k < length ps → get_or ps k frame ≡ frame
    → steps_to frame.0 ps < length ps
steps_in frame [] k lt is = absurd (omega (arith, lt))
steps_in frame (p ∷ ps) k lt is = elim (cases_Bool (nat_eq p.0 frame.0)) [
  | inl t ↦
      let none : steps_to frame.0 (p ∷ ps) ≡ 0 = ap (λ b. cond b 0 (suc (steps_to frame.0 ps))) t in
      omega (arith, none)
  | inr f ↦
      let more : steps_to frame.0 (p ∷ ps) ≡ suc (steps_to frame.0 ps) =
      ap (λ b. cond b 0 (suc (steps_to frame.0 ps))) f in
      omega (arith, more, rest k lt is f (λ k l e. steps_in frame ps k l e))
]
  where
    rest : (k : ℕ) → k < suc (length ps) → get_or (p ∷ ps) k frame ≡ frame → nat_eq p.0 frame.0 ≡ false
        → ((k : ℕ) → k < length ps → get_or ps k frame ≡ frame → steps_to frame.0 ps < length ps)
        → steps_to frame.0 ps < length ps
    rest zero lt is f go =
        absurd (both_ways (nat_eq p.0 frame.0) f (eq-eqb p.0 frame.0 (ap (λ (q : PanelId). q.0) is)))
    rest (suc k) lt is f go = go k (omega (arith, lt)) is

-- a path has one panel more than turns
pub length-path : (n : ℕ) (js : List (Option Joint)) (p : ℕ) → length (path_by n js p)
    ≡ suc (length (turns_by n js p))
unfolding path_by turns_by
length-path zero js p = refl
length-path (suc n) js p = ap suc (at (joint_of js p) (λ q. length-path n js q))
  where
    at : (o : Option Joint) → ((q : ℕ) → length (path_by n js q) ≡ suc (length (turns_by n js q)))
        → length (beyond (λ j. path_by n js j.parent.0) o)
        ≡ length (beyond (λ j. j.turn ∷ turns_by n js j.parent.0) o)
    at None go = refl
    at (Some j) go = go j.parent.0

pub few_turns : (n : ℕ) (js : List (Option Joint)) (p : ℕ) → length (turns_by n js p) ≤ n
unfolding turns_by
few_turns zero js p = omega arith
few_turns (suc n) js p = at (joint_of js p) (λ q. few_turns n js q)
  where
    at : (o : Option Joint) → ((q : ℕ) → length (turns_by n js q) ≤ n)
        → length (beyond (λ j. j.turn ∷ turns_by n js j.parent.0) o) ≤ suc n
    at None go = omega arith
    at (Some j) go = omega (arith, go j.parent.0)

-- the joint of a panel of a carton leads to a panel
joint_in : (t : Tree) (p : ℕ) → IsCarton t → p < length t.panels
    → IfSome (joint_of t.joints p) (IsJointIn (length t.panels))
joint_in t p h lt = elim (cases_eq p t.root) [
  | inl e ↦ subst (λ o. IfSome o (IsJointIn (length t.panels))) (sym (ap (joint_of t.joints) e ∙ h.top)) tt
  | inr n ↦ some (joint_of t.joints p) (h.others p lt n)
]
  where
    some : (o : Option Joint) → IsSomeAnd o (IsJointIn (length t.panels))
        → IfSome o (IsJointIn (length t.panels))
    some None j = absurd j
    some (Some x) j = j

pub parents_in : (t : Tree) → IsCarton t → AreParents t.joints
parents_in t h p = elim (cases_lt p (length t.joints)) [
  | inl lt ↦ within (joint_of t.joints p) (joint_in t p h (omega (arith, h.joints, lt)))
  | inr past ↦
      subst (λ o. IfSome o (λ j. j.parent.0 < length t.joints)) (sym (get_or_past t.joints p None past)) tt
]
  where
    within : (o : Option Joint) → IfSome o (IsJointIn (length t.panels))
        → IfSome o (λ j. j.parent.0 < length t.joints)
    within None j = tt
    within (Some x) j = omega (arith, h.joints, j.parent)

-- the turns of a carton are turns
pub valid_turns : (t : Tree) (n p : ℕ) → IsCarton t → p < length t.panels → All IsTurn (turns_by n t.joints p)
unfolding turns_by
valid_turns t zero p h lt = All-nil IsTurn
valid_turns t (suc n) p h lt = at (joint_of t.joints p) (joint_in t p h lt) (λ q l. valid_turns t n q h l)
  where
    at : (o : Option Joint) → IfSome o (IsJointIn (length t.panels))
        → ((q : ℕ) → q < length t.panels → All IsTurn (turns_by n t.joints q))
        → All IsTurn (beyond (λ j. j.turn ∷ turns_by n t.joints j.parent.0) o)
    at None j go = All-nil IsTurn
    at (Some x) j go = All-cons IsTurn x.turn (turns_by n t.joints x.parent.0) j.turn (go x.parent.0 j.parent)

-- the root is on each path
pub root_on : (t : Tree) (p : ℕ) → IsCarton t → p < length t.panels
    → Contains (path t.joints p) (record { 0 = t.root })
root_on t p h lt = last_in (path t.joints p) (record { 0 = t.root }) (h.ends p lt)

-- the same of a root that is read from what stands for the carton
pub root_above : (t u : Tree) (root : PanelId) (p : ℕ) → t ≡ u → root.0 ≡ t.root → IsCarton t
    → p < length u.panels → Contains (path u.joints p) root
root_above t u root p e is h lt =
    subst (Contains (path u.joints p)) (ap (λ n. record { 0 = n }) (sym (is ∙ ap (λ (x : Tree). x.root) e)))
    (root_on u p (subst IsCarton e h) lt)

-- the turns before a frame on a path are some of those on it
pub steps_fit : (js : List (Option Joint)) (p : ℕ) (frame : PanelId) → Contains (path js p) frame
    → steps_to frame.0 (path js p) ≤ length (turns_by LONGEST_PATH js p)
unfolding path
steps_fit js p frame h =
    omega (arith, steps_in frame (path_by LONGEST_PATH js p) h.0 h.1 h.2, length-path LONGEST_PATH js p)
