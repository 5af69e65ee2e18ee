-- The free joints of a dieline are one list, each has one place there, and a carton has fewer of them than
-- panels.
use Rattle.std.proofs.Common.{◌≡◌, ◌≢◌, ℕ, zero, suc, ◌<◌, ◌≤◌, inl, inr, List, length, get_or, map, arith}
use Rattle.std.proofs.Common.{sym, ◌∙◌, ap, subst, refl, true, eqb, eq-eqb, Option, Some, None, AllPairs}
use Rattle.std.specs.Prelude.{IsSomeAnd}
use Rattle.std.specs.List.{list_any}
use Rattle.std.proofs.lemmas.Bool.{cases_lt}
use Rattle.std.proofs.lemmas.List.{get_or-map, length-map}
use Rattle.std.proofs.lemmas.List.Folds.{list_any_at}
use Rattle.std.proofs.lemmas.Map.Steps.{le-length_from_below}
use Rattle.carton_base.specs.declared.dieline.RawDieline.{RawDieline}
use Rattle.carton_base.specs.declared.ids.EdgeId.{EdgeId}
use Rattle.carton_tree.specs.Answers.{IsTreeOf, IsHungBy}
use Rattle.carton_tree.specs.Joints.{IsLocked, IsFree, IsPlace, AreCreases}
use Rattle.carton_tree.specs.Trees.{Tree, joint_of}
use Rattle.carton_tree.specs.declared.joint.Joint.{Joint}
use Rattle.carton_tree.proofs.Ordered.{Covers, one_list}

covered : (d : RawDieline) (cs ds : List EdgeId) → AreCreases d cs → AreCreases d ds → Covers cs ds
covered d cs ds h k = λ e has. k.whole e.0 (subst (λ (x : EdgeId). IsFree d x.0) has.2 (h.free has.0 e has.1))

-- the free joints are one list
pub one_creases : (d : RawDieline) (cs ds : List EdgeId) → AreCreases d cs → AreCreases d ds → cs ≡ ds
one_creases d cs ds h k =
    one_list (λ (a : EdgeId) (b : EdgeId). a.0 < b.0) cs ds (λ p q lt gt. omega (arith, lt, gt))
    h.ordered k.ordered (covered d cs ds h k) (covered d ds cs k h)

-- a free joint stands at one place
pub one_place : (cs : List EdgeId) (a b : ℕ) (e : EdgeId) → AllPairs (λ j k. j.0 < k.0) cs
    → a < length cs → b < length cs → (get_or cs a e).0 ≡ (get_or cs b e).0 → a ≡ b
one_place cs a b e rising lt lt' same = elim (cases_lt a b) [
  | inl less ↦ let r = rising a b e less lt' in absurd (omega (arith, r, same))
  | inr le ↦ elim (cases_lt b a) [
    | inl more ↦ let r = rising b a e more lt in absurd (omega (arith, r, same))
    | inr ge ↦ omega (arith, le, ge)
  ]
]

-- a locked joint has no place
pub no_place : (d : RawDieline) (cs : List EdgeId) (e : ℕ) (o : Option ℕ) → AreCreases d cs → IsLocked d e
    → IsPlace d cs e o → o ≡ None
no_place d cs e None are locked place = refl
no_place d cs e (Some n) are locked place =
    let here : EdgeId = record { 0 = e } in
    let free : IsFree d e = subst (IsFree d) (place.1 here) (are.free n here place.0) in
    absurd (free.loose locked)

-- a joint has one place, or none
pub one_spot : (d : RawDieline) (cs : List EdgeId) (e : ℕ) (a b : Option ℕ) → AreCreases d cs
    → IsPlace d cs e a → IsPlace d cs e b → a ≡ b
one_spot d cs e None b are h k = sym (no_place d cs e b are h k)
one_spot d cs e (Some n) None are h k = no_place d cs e (Some n) are k h
one_spot d cs e (Some n) (Some l) are h k =
    let x : EdgeId = record { 0 = e } in
    ap (λ (m : ℕ). Some m) (one_place cs n l x are.ordered h.0 k.0 (h.1 x ∙ sym (k.1 x)))

-- a panel that hangs by a joint hangs as the dieline has it
pub hung_so : (m : ℕ) (d : RawDieline) (root : ℕ) (t : Tree) (p : ℕ) (j : Joint) → IsTreeOf m d root t
    → p < length d.faces → joint_of t.joints p ≡ Some j → IsHungBy d t p j
hung_so m d root t p j h lt is = subst (λ o. IsSomeAnd o (IsHungBy d t p)) is (h.hung p lt not_root)
  where
    differ : (x : Joint) → Some x ≡ None → ⊥
    differ x e = cc

    not_root : p ≢ root
    not_root e = differ j (sym is ∙ ap (joint_of t.joints) (e ∙ sym h.root) ∙ h.carton.top)

-- its joint has the place of its edge
pub hung_place : (m : ℕ) (d : RawDieline) (root : ℕ) (t : Tree) (p : ℕ) (j : Joint) (e : ℕ)
    → IsTreeOf m d root t
    → p < length d.faces → joint_of t.joints p ≡ Some j → j.edge.0 ≡ e → IsPlace d t.creases e j.turn.place
hung_place m d root t p j e h lt is same =
    let by = hung_so m d root t p j h lt is in
    subst (λ k. IsPlace d t.creases k j.turn.place) same by.turn.place

-- a panel is numbered by the joint that it hangs by: from 1 on by the places of the free joints, and 0 where
-- it hangs
-- by none of them
abbrev after_place : Option ℕ → ℕ
after_place None = 0
after_place (Some n) = suc n

abbrev number : Option Joint → ℕ
number None = 0
number (Some j) = after_place j.turn.place

-- the joint at a place of the free joints has that place
has_place : (d : RawDieline) (cs : List EdgeId) (n : ℕ) (e : EdgeId) (o : Option ℕ) → AreCreases d cs
    → n < length cs → IsFree d (get_or cs n e).0 → IsPlace d cs (get_or cs n e).0 o → after_place o ≡ suc n
has_place d cs n e None are lt free place = absurd (free.loose place)
has_place d cs n e (Some k) are lt free place = ap suc (one_place cs k n e are.ordered place.0 lt (place.1 e))

-- some panel has each number up to that of the free joints
numbered : (m : ℕ) (d : RawDieline) (root : ℕ) (t : Tree) (q : ℕ) → IsTreeOf m d root t
    → q < suc (length t.creases)
    → (p : ℕ) × (p < length t.joints) × (number (joint_of t.joints p) ≡ q)
numbered m d root t zero h lt =
    (t.root, omega (arith, h.carton.joints, h.carton.root), ap number h.carton.top)
numbered m d root t (suc n) h lt =
    let e : EdgeId = record { 0 = 0 } in
    let free = h.creases.free n e (omega (arith, lt)) in
    let by = h.hangs (get_or t.creases n e).0 free.joint in (
      by.0,
      omega (arith, by.1, h.carton.joints, h.panels),
      at (joint_of t.joints by.0) by.0 e by.1 refl free by.2,
    )
  where
    at : (o : Option Joint) (p : ℕ) (e : EdgeId) → p < length d.faces → joint_of t.joints p ≡ o
        → IsFree d (get_or t.creases n e).0 → IsSomeAnd o (λ j. j.edge.0 ≡ (get_or t.creases n e).0)
        → number o ≡ suc n
    at None p e less is free same = absurd same
    at (Some j) p e less is free same =
        has_place d t.creases n e j.turn.place h.creases (omega (arith, lt)) free
        (hung_place m d root t p j (get_or t.creases n e).0 h less is same)

-- each free joint hangs a panel, and the root hangs by none
pub fewer_creases : (m : ℕ) (d : RawDieline) (root : ℕ) (t : Tree) → IsTreeOf m d root t
    → length t.creases < length t.panels
fewer_creases m d root t h =
    let numbers = map number t.joints in
    let as_many : length numbers ≡ length t.joints = length-map t.joints number in
    let enough : suc (length t.creases) ≤ length numbers =
    le-length_from_below numbers (suc (length t.creases)) each in
    omega (arith, as_many, enough, h.carton.joints)
  where
    each : (q : ℕ) → q < suc (length t.creases) → list_any (eqb q) (map number t.joints) ≡ true
    each q lt =
        let by = numbered m d root t q h lt in
        let less : by.0 < length (map number t.joints) = omega (arith, by.1, length-map t.joints number) in
        let is = sym by.2 ∙ sym (get_or-map number t.joints by.0 None 0 by.1) in
        list_any_at (eqb q) (map number t.joints) by.0 0 less
        (eq-eqb q (get_or (map number t.joints) by.0 0) is)
