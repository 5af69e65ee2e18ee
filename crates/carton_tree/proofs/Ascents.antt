-- How many joints lead from a panel to the root: one number for each panel.
use Rattle.std.proofs.Common.{◌≡◌, ℕ, zero, suc, ◌<◌, List, [], ◌∷◌, length, refl, sym, ◌∙◌, ap, subst}
use Rattle.std.proofs.Common.{Option, Some, None}
use Rattle.std.specs.Prelude.{IsSomeAnd}
use Rattle.std.specs.List.{last_or}
use Rattle.std.proofs.lemmas.Option.{same_Some}
use Rattle.carton_base.specs.declared.ids.PanelId.{PanelId}
use Rattle.carton_base.specs.declared.limits.TheConstants.{LONGEST_PATH}
use Rattle.carton_tree.specs.Cartons.{IsCarton}
use Rattle.carton_tree.specs.Trees.{Tree, joint_of, path, path_by, beyond}
use Rattle.carton_tree.specs.declared.joint.Joint.{Joint}

-- so many joints lead from panel p to the root, from each panel to its parent
abbrev pub Climbs : List (Option Joint) → ℕ → ℕ → ℕ → Type 0
Climbs joints root zero p = p ≡ root
Climbs joints root (suc n) p = IsSomeAnd (joint_of joints p) (λ j. Climbs joints root n j.parent.0)

-- the root hangs by no joint, so no panel climbs by two numbers of joints
pub one_climb : (joints : List (Option Joint)) (root : ℕ) → joint_of joints root ≡ None → (n k p : ℕ)
    → Climbs joints root n p → Climbs joints root k p → n ≡ k
one_climb joints root top zero zero p a b = refl
one_climb joints root top zero (suc k) p a b =
    absurd (subst (λ o. IsSomeAnd o (λ j. Climbs joints root k j.parent.0)) (ap (joint_of joints) a ∙ top) b)
one_climb joints root top (suc n) zero p a b =
    absurd (subst (λ o. IsSomeAnd o (λ j. Climbs joints root n j.parent.0)) (ap (joint_of joints) b ∙ top) a)
one_climb joints root top (suc n) (suc k) p a b =
    at (joint_of joints p) a b (λ q c d. one_climb joints root top n k q c d)
  where
    at : (o : Option Joint) → IsSomeAnd o (λ j. Climbs joints root n j.parent.0)
        → IsSomeAnd o (λ j. Climbs joints root k j.parent.0)
        → ((q : ℕ) → Climbs joints root n q → Climbs joints root k q → n ≡ k) → suc n ≡ suc k
    at None c d go = absurd c
    at (Some j) c d go = ap suc (go j.parent.0 c d)

-- a path ends at the root
abbrev pub EndsAt : ℕ → List PanelId → Type 0
EndsAt root path = last_or None path ≡ Some (record { 0 = root })

pub only_panel : (p root : ℕ) → EndsAt root ((record { 0 = p }) ∷ []) → p ≡ root
only_panel p root e = ap (λ (x : PanelId). x.0) (same_Some (record { 0 = p }) (record { 0 = root }) e)

-- a path is never empty, so that its last panel depends on nothing else
pub last_of_path : (o : Option PanelId) (n : ℕ) (joints : List (Option Joint)) (p : ℕ)
    → last_or o (path_by n joints p) ≡ last_or None (path_by n joints p)
unfolding path_by
last_of_path o zero joints p = refl
last_of_path o (suc n) joints p = refl

-- where the path ends at the root, it is such a way
climbs_by : (joints : List (Option Joint)) (root n p : ℕ)
    → EndsAt root (path_by n joints p) → (k : ℕ) × Climbs joints root k p
unfolding path_by
climbs_by joints root zero p e = (zero, only_panel p root e)
climbs_by joints root (suc n) p e = at (joint_of joints p) refl e (λ q f. climbs_by joints root n q f)
  where
    at : (o : Option Joint) → joint_of joints p ≡ o
        → EndsAt root ((record { 0 = p }) ∷ beyond (λ j. path_by n joints j.parent.0) o)
        → ((q : ℕ) → EndsAt root (path_by n joints q) → (k : ℕ) × Climbs joints root k q)
        → (k : ℕ) × Climbs joints root k p
    at None is f go = (zero, only_panel p root f)
    at (Some j) is f go =
        let up = go j.parent.0 (sym (last_of_path (Some (record { 0 = p })) n joints j.parent.0) ∙ f) in
        (suc up.0, subst (λ o. IsSomeAnd o (λ x. Climbs joints root up.0 x.parent.0)) (sym is) up.1)

-- each panel of a carton climbs to its root
pub climbs : (t : Tree) (p : ℕ) → IsCarton t → p < length t.panels → (k : ℕ) × Climbs t.joints t.root k p
unfolding path
climbs t p h lt = climbs_by t.joints t.root LONGEST_PATH p (h.ends p lt)
