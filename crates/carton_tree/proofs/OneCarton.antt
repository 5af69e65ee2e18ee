-- A dieline and a root hang all panels in one way.
use Rattle.std.proofs.Common.{◌≡◌, ℕ, zero, suc, ◌<◌, inl, inr, length, refl, sym, ◌∙◌, ap, subst, arith}
use Rattle.std.proofs.Common.{Option, Some, None, Ok}
use Rattle.std.specs.Prelude.{IsSomeAnd}
use Rattle.std.proofs.lemmas.List.{ext_get_or}
use Rattle.carton_base.specs.declared.dieline.RawDieline.{RawDieline}
use Rattle.carton_tree.specs.Answers.{IsTreeOf, IsHungBy, IsTreeAnswer}
use Rattle.carton_tree.specs.Joints.{IsJointOf, IsTurnOf}
use Rattle.carton_tree.specs.Rules.{Never, IsThreefold}
use Rattle.carton_tree.specs.Same.{AreSame}
use Rattle.carton_tree.specs.Trees.{Tree, joint_of}
use Rattle.carton_tree.specs.declared.joint.Joint.{Joint}
use Rattle.carton_tree.proofs.Ascents.{Climbs, one_climb, climbs}
use Rattle.carton_tree.proofs.OneJoint.{one_pair, one_joint}
use Rattle.carton_tree.proofs.FreeJoints.{one_creases, hung_so}

root_top : (m : ℕ) (d : RawDieline) (root : ℕ) (t : Tree) → IsTreeOf m d root t
    → joint_of t.joints root ≡ None
root_top m d root t h = ap (joint_of t.joints) (sym h.root) ∙ h.carton.top

-- panels that hang alike above panel p
abbrev Above : Tree → Tree → RawDieline → ℕ → ℕ → Type 0
Above t u d root n =
    (q : ℕ) → q < length d.faces → Climbs t.joints root n q → joint_of t.joints q ≡ joint_of u.joints q

-- no panel hangs from a panel that hangs from it
no_return : (m : ℕ) (d : RawDieline) (root : ℕ) (t : Tree) (n p q : ℕ) (i : Joint) → IsTreeOf m d root t
    → Climbs t.joints root (suc n) p → Climbs t.joints root n q → joint_of t.joints q ≡ Some i
    → i.parent.0 ≡ p → ⊥
no_return m d root t n p q i h up above is back =
    let longer : Climbs t.joints root (suc (suc n)) q =
    subst (λ o. IsSomeAnd o (λ j. Climbs t.joints root (suc n) j.parent.0)) (sym is)
    (subst (λ x. Climbs t.joints root (suc n) x) (sym back) up) in
    let same : n ≡ suc (suc n) =
    one_climb t.joints root (root_top m d root t h) n (suc (suc n)) q above longer in
    omega (arith, same)

-- panel p hangs by joint j in the one tree; edge j hangs a panel in the other, and that is p
hangs_so : (m : ℕ) (d : RawDieline) (root : ℕ) (t u : Tree) (n p : ℕ) (j : Joint) → IsTreeOf m d root t
    → IsTreeOf m d root u → Never (IsThreefold d) → p < length d.faces → joint_of t.joints p ≡ Some j
    → Climbs t.joints root (suc n) p → Climbs t.joints root n j.parent.0 → Above t u d root n
    → joint_of t.joints p ≡ joint_of u.joints p
hangs_so m d root t u n p j h k once lt is up above go =
    let by = hung_so m d root t p j h lt is in
    let there = k.hangs j.edge.0 (p, j.parent.0, by.joins) in
    at (joint_of u.joints there.0) there.0 by there.1 refl there.2
  where
    at : (o : Option Joint) (c : ℕ) → IsHungBy d t p j → c < length d.faces → joint_of u.joints c ≡ o
        → IsSomeAnd o (λ i. i.edge.0 ≡ j.edge.0) → joint_of t.joints p ≡ joint_of u.joints p
    at None c by less is' same = absurd same
    at (Some i) c by less is' same =
        let by' = hung_so m d root u c i k less is' in
        let joins : IsJointOf d j.edge.0 c i.parent.0 =
        subst (λ e. IsJointOf d e c i.parent.0) same by'.joins in
        elim (one_pair d j.edge.0 p j.parent.0 c i.parent.0 once by.joins joins) [
          | inl here ↦
              let creases : u.creases ≡ t.creases = one_creases d u.creases t.creases k.creases h.creases in
              let turn : IsTurnOf d t.creases i.edge.0 p i.turn =
              subst (λ cs. IsTurnOf d cs i.edge.0 p i.turn) creases
              (subst (λ f. IsTurnOf d u.creases i.edge.0 f i.turn) here.0 by'.turn) in
              let one : i ≡ j = one_joint d t.creases p i j h.creases same here.1 turn by.turn in
              is ∙ ap (λ (x : Joint). Some x) (sym one) ∙ sym is' ∙ ap (joint_of u.joints) here.0
          | inr back ↦
              let hung : joint_of t.joints j.parent.0 ≡ Some i =
              go j.parent.0 by.joins.second above ∙ ap (joint_of u.joints) (sym back.0) ∙ is' in
              absurd (no_return m d root t n p j.parent.0 i h up above hung back.1)
        ]

one_hanging : (m : ℕ) (d : RawDieline) (root : ℕ) (t u : Tree) → IsTreeOf m d root t → IsTreeOf m d root u
    → Never (IsThreefold d) → (n p : ℕ) → p < length d.faces → Climbs t.joints root n p
    → joint_of t.joints p ≡ joint_of u.joints p
one_hanging m d root t u h k once zero p lt up =
    ap (joint_of t.joints) up ∙ root_top m d root t h
    ∙ sym (ap (joint_of u.joints) up ∙ root_top m d root u k)
one_hanging m d root t u h k once (suc n) p lt up =
    at (joint_of t.joints p) refl up (λ q less above. one_hanging m d root t u h k once n q less above)
  where
    at : (o : Option Joint) → joint_of t.joints p ≡ o → IsSomeAnd o (λ j. Climbs t.joints root n j.parent.0)
        → Above t u d root n → joint_of t.joints p ≡ joint_of u.joints p
    at None is above go = absurd above
    at (Some j) is above go = hangs_so m d root t u n p j h k once lt is up above go

-- all trees of a dieline with one root have the same joints
pub one_joints : (m : ℕ) (d : RawDieline) (root : ℕ) (t u : Tree) → Never (IsThreefold d)
    → IsTreeOf m d root t → IsTreeOf m d root u → t.joints ≡ u.joints
one_joints m d root t u once h k =
    ext_get_or None t.joints u.joints (h.carton.joints ∙ h.panels ∙ sym (k.carton.joints ∙ k.panels)) each
  where
    each : (p : ℕ) → p < length t.joints → joint_of t.joints p ≡ joint_of u.joints p
    each p lt =
        let up = climbs t p h.carton (omega (arith, lt, h.carton.joints)) in
        let less : p < length d.faces = omega (arith, lt, h.carton.joints, h.panels) in
        one_hanging m d root t u h k once up.0 p less (subst (λ r. Climbs t.joints r up.0 p) h.root up.1)

-- all cartons of a dieline with one margin and root are the same
pub one_carton : (m : ℕ) (d : RawDieline) (root : ℕ) (t u : Tree) → IsTreeAnswer m d root (Ok t)
    → IsTreeAnswer m d root (Ok u) → AreSame t u
one_carton m d root t u h k = record {
  root = h.3.root ∙ sym k.3.root;
  joints = one_joints m d root t u h.1.0.0.1 h.3 k.3;
  creases = one_creases d t.creases u.creases h.3.creases k.3.creases;
  count = h.3.panels ∙ sym k.3.panels;
  panel = λ p lt.
      let less : p < length t.panels = omega (arith, lt, h.3.panels, k.3.panels) in
      record {
        margin = λ s. (h.3.shapes.each p s less).margin ∙ sym (k.3.shapes.each p s lt).margin;
        places = λ s. (h.3.shapes.each p s less).places ∙ sym (k.3.shapes.each p s lt).places;
      };
}

pub same_back : (t u : Tree) → AreSame t u → AreSame u t
same_back t u same = record {
  root = sym same.root;
  joints = sym same.joints;
  creases = sym same.creases;
  count = sym same.count;
  panel = λ p lt.
      let one = same.panel p (omega (arith, lt, same.count)) in
      record { margin = λ s. sym (one.margin s); places = λ s. sym (one.places s) };
}
