-- Flaps, panels that hang by free joints: one at most hangs by an edge, it is a panel of the carton, and its
-- joint has one place, which is one of the states'.
use Rattle.std.proofs.Common.{◌≡◌, ◌∙◌, sym, ap, subst, inl, inr, ℕ, ◌<◌, List, length, Option, None, Some}
use Rattle.std.proofs.Common.{arith}
use Rattle.std.specs.Prelude.{IsSomeAnd, IfSome}
use Rattle.std.proofs.lemmas.Bool.{cases_lt, cases_eq}
use Rattle.std.proofs.lemmas.List.{get_or_past}
use Rattle.std.proofs.lemmas.Option.{same_Some}
use Rattle.carton_base.specs.declared.limits.TheConstants.{MOST_JOINTS}
use Rattle.carton_tree.specs.declared.joint.Joint.{Joint}
use Rattle.carton_tree.specs.Cartons.{IsCarton, IsJointIn}
use Rattle.carton_tree.specs.Rules.{IsLeast}
use Rattle.carton_tree.specs.Trees.{Tree, Hangs, joint_of}
use Rattle.carton_tree.proofs.OneRefusal.{least_once}

-- the joint has place k in the states
abbrev pub HasPlace : ℕ → Joint → Type 0
HasPlace k j = j.turn.place ≡ Some k

-- a panel that hangs by a joint is one of the panels
pub hung_within : (P : Joint → Type 0) (joints : List (Option Joint)) (p : ℕ)
    → IsSomeAnd (joint_of joints p) P
    → p < length joints
hung_within P joints p h = elim (cases_lt p (length joints)) [
  | inl lt ↦ lt
  | inr ge ↦ absurd (subst (λ o. IsSomeAnd o P) (get_or_past joints p None ge) h)
]

pub hung_in : (t : Tree) (P : Joint → Type 0) (p : ℕ) → IsCarton t → IsSomeAnd (joint_of t.joints p) P
    → p < length t.panels
hung_in t P p carton h =
    let within = hung_within P t.joints p h in
    let joints = carton.joints in
    omega (arith, within, joints)

same_place : (o : Option Joint) (k m : ℕ) → IsSomeAnd o (HasPlace k) → IsSomeAnd o (HasPlace m) → k ≡ m
same_place None k m h i = absurd h
same_place (Some j) k m h i = same_Some k m (sym h ∙ i)

-- the panel by an edge, and its place
pub one_flap : (joints : List (Option Joint)) (e f k g m : ℕ) → IsLeast (Hangs joints e) f
    → IsSomeAnd (joint_of joints f) (HasPlace k) → IsLeast (Hangs joints e) g
    → IsSomeAnd (joint_of joints g) (HasPlace m) → (f ≡ g) × (k ≡ m)
one_flap joints e f k g m child free child' free' =
    let same : f ≡ g = least_once (Hangs joints e) f g child child' in
    let there = subst (λ p. IsSomeAnd (joint_of joints p) (HasPlace k)) same free in
    (same, same_place (joint_of joints g) k m there free')

few_places : (o : Option Joint) (panels k : ℕ) → IsSomeAnd o (IsJointIn panels) → IsSomeAnd o (HasPlace k)
    → k < MOST_JOINTS
few_places None panels k h i = absurd h
few_places (Some j) panels k h i = subst (λ o. IfSome o (λ n. n < MOST_JOINTS)) i h.turn.place

-- the place is one of the states'
pub place_in : (t : Tree) (p k : ℕ) → IsCarton t → IsSomeAnd (joint_of t.joints p) (HasPlace k)
    → k < MOST_JOINTS
place_in t p k carton free = elim (cases_eq p t.root) [
  | inl root ↦
      let none : joint_of t.joints p ≡ None = ap (joint_of t.joints) root ∙ carton.top in
      absurd (subst (λ o. IsSomeAnd o (HasPlace k)) none free)
  | inr other ↦
      let hangs = carton.others p (hung_in t (HasPlace k) p carton free) other in
      few_places (joint_of t.joints p) (length t.panels) k hangs free
]
