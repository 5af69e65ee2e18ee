-- From how the panels hang to the carton: parents, paths, and the joints of the dieline that hang them.
use Rattle.std.proofs.Common.{◌≡◌, ◌≢◌, ℕ, zero, suc, ◌<◌, ◌≤◌, inl, inr, List, length, Option, Some, None}
use Rattle.std.proofs.Common.{refl, sym, ◌∙◌, ap, subst, arith}
use Rattle.std.specs.Prelude.{IsSome, IsSomeAnd}
use Rattle.std.proofs.lemmas.Bool.{cases_lt, false≢true}
use Rattle.carton_base.specs.declared.dieline.RawDieline.{RawDieline}
use Rattle.carton_base.specs.declared.ids.EdgeId.{EdgeId}
use Rattle.carton_base.specs.declared.ids.PanelId.{PanelId}
use Rattle.carton_base.specs.declared.limits.TheConstants.{MOST_JOINTS, LONGEST_PATH}
use Rattle.carton_model.specs.Dielines.{IsDieline}
use Rattle.carton_panels.specs.Shapes.{Shape}
use Rattle.carton_panels.specs.DielinePanels.{AreShapes}
use Rattle.carton_tree.proofs.Ascents.{EndsAt, last_of_path}
use Rattle.carton_tree.proofs.Options.{some_then}
use Rattle.carton_tree.specs.declared.hinges.Hinge.{Hinge}
use Rattle.carton_tree.specs.declared.joint.Joint.{Joint}
use Rattle.carton_tree.specs.declared.spots.Spot.{Spot}
use Rattle.carton_tree.specs.Joints.{IsJointOf, IsJoint, IsTurnOf}
use Rattle.carton_tree.specs.Trees.{Hangs, joint_of, path, path_by}
use Rattle.carton_model.specs.Turning.{IsTurn}
use Rattle.carton_tree.specs.Cartons.{IsJointIn, IsCarton}
use Rattle.carton_tree.specs.Answers.{IsHungBy, IsTreeOf}
use Rattle.carton_tree.specs.Steps.{AreCreasesBelow, AreOpen, IsWay, IsSpot, AreSpots, spot_at, IsJointBy}
use Rattle.carton_tree.specs.Steps.{IsKnown, IsJointAnswer, AreJoints}
use Rattle.carton_tree.specs.Rules.{Never, IsDeep}
use Rattle.carton_tree.proofs.Deciding.{all_hang}
use Rattle.carton_tree.proofs.Tying.{AreAll, blank, edge_of, few_joints, from_hinge, to_hinge, within}
use Rattle.carton_tree.proofs.Tying.{IsHanger, hanger}

-- what is known once all panels hang
pub record IsHung (d : RawDieline) (cs : List EdgeId) (hs : List Hinge) (spots : List (Option Spot))
    (js : List (Option Joint)) (root : ℕ) : Type 0 where
  pub dieline : IsDieline d
  pub creases : AreCreasesBelow d (length d.edges) cs
  pub all : AreAll d cs hs
  pub still_open : AreOpen hs (length hs)
  pub few : length hs ≤ MOST_JOINTS
  pub root_in : root < length d.faces
  pub known : AreSpots hs root LONGEST_PATH spots
  pub hang : (p : ℕ) → p < length d.faces → IsSome (spot_at spots p)
  pub joints : AreJoints d cs hs spots js
  pub whole : length js ≡ length d.faces

module _ (d : RawDieline) (cs : List EdgeId) (hs : List Hinge) (spots : List (Option Spot)) (root : ℕ)
    (dieline : IsDieline d) (all : AreAll d cs hs) (still_open : AreOpen hs (length hs))
    (known : AreSpots hs root LONGEST_PATH spots) (deep : Never (IsDeep d root)) where
  hang : (q : ℕ) → q < length d.faces → IsSome (spot_at spots q)
  hang q lt = all_hang d cs hs spots q root all known dieline.faces deep lt

  -- a dieline of open joints has few of them, where no panel hangs too deep
  pub few_hinges : length hs ≤ MOST_JOINTS
  few_hinges =
      few_joints hs root LONGEST_PATH (length d.faces) spots (within d cs hs all (length d.faces) (omega arith))
      still_open known hang dieline.faces

  -- what the steps tell of the joints, put together
  pub is_hung : (js : List (Option Joint)) → AreCreasesBelow d (length d.edges) cs → root < length d.faces
      → AreJoints d cs hs spots js → length js ≡ length d.faces → IsHung d cs hs spots js root
  is_hung js creases root_in joints whole = record {
    dieline = dieline;
    creases = creases;
    all = all;
    still_open = still_open;
    few = few_hinges;
    root_in = root_in;
    known = known;
    hang = hang;
    joints = joints;
    whole = whole;
  }

-- how a panel hangs, and its joint
record HangsBy (d : RawDieline) (cs : List EdgeId) (hs : List Hinge) (spots : List (Option Spot))
    (js : List (Option Joint)) (root p : ℕ) : Type 0 where
  s : Spot
  at : spot_at spots p ≡ Some s
  is : IsSpot hs spots root p s
  deep : s.depth ≤ LONGEST_PATH
  joint : IsJointAnswer d cs hs p (Some s) (joint_of js p)

module _ (d : RawDieline) (cs : List EdgeId) (hs : List Hinge) (p : ℕ) (s : Spot) where
  -- the joint of a panel below the root
  joint_by : (o : Option Joint) → 0 < s.depth → IsJointAnswer d cs hs p (Some s) o
      → IsSomeAnd o (IsJointBy d cs hs p s)
  joint_by None lt j = absurd (omega (arith, lt, j))
  joint_by (Some x) lt j = j

  no_joint_by : (o : Option Joint) → s.depth ≡ 0 → IsJointAnswer d cs hs p (Some s) o → o ≡ None
  no_joint_by None e j = refl
  no_joint_by (Some x) e j = absurd (omega (arith, e, j.below))

-- the root hangs by none
root_flat : (hs : List Hinge) (root : ℕ) (spots : List (Option Spot)) (s : Spot) → IsSpot hs spots root root s
    → s.depth ≡ 0
root_flat hs root spots s is = elim (cases_lt 0 s.depth) [
  | inl lt ↦ absurd (is.least 0 lt refl)
  | inr ge ↦ omega (arith, ge)
]

module _ (d : RawDieline) (cs : List EdgeId) (hs : List Hinge) (spots : List (Option Spot))
    (js : List (Option Joint)) (root : ℕ) (h : IsHung d cs hs spots js root) where
  hangs_by : (p : ℕ) → p < length d.faces → HangsBy d cs hs spots js root p
  hangs_by p lt =
      known (spot_at spots p) refl (h.hang p lt) (h.known.known p) (h.joints.each p (omega (arith, h.whole, lt)))
    where
      known : (o : Option Spot) → spot_at spots p ≡ o → IsSome o → IsKnown hs spots root LONGEST_PATH p o
          → IsJointAnswer d cs hs p o (joint_of js p) → HangsBy d cs hs spots js root p
      known None e some k j = absurd (false≢true some)
      known (Some s) e some k j = record { s = s; at = e; is = k.0; deep = k.1; joint = j }

  -- a panel that hangs by no joint is the root
  flat_root : (p : ℕ) (by : HangsBy d cs hs spots js root p) → by.s.depth ≤ 0 → p ≡ root
  flat_root p by le =
      let flat : by.s.depth ≡ 0 = omega (arith, le) in subst (λ k. IsWay hs root k p) flat by.is.leads

  -- the path of a panel ends at the root
  ends_by : (n p : ℕ) → p < length d.faces → (by : HangsBy d cs hs spots js root p) → by.s.depth ≤ n
      → EndsAt root (path_by n js p)
  unfolding path_by
  ends_by zero p lt by le = ap (λ n. Some (record { 0 = n })) (flat_root p by le)
  ends_by (suc n) p lt by le = elim (cases_lt 0 by.s.depth) [
    | inr ge ↦
        at_root (no_joint_by d cs hs p by.s (joint_of js p) (omega (arith, ge)) by.joint)
        ∙ ap (λ n. Some (record { 0 = n })) (flat_root p by ge)
    | inl below ↦ above (joint_of js p) refl (joint_by d cs hs p by.s (joint_of js p) below by.joint) below
        (λ q l up less. ends_by n q l up less)
  ]
    where
      at_root : joint_of js p ≡ None → EndsAt p (path_by (suc n) js p)
      at_root e = rw e refl

      above : (o : Option Joint) → joint_of js p ≡ o → IsSomeAnd o (IsJointBy d cs hs p by.s) → 0 < by.s.depth
          → ((q : ℕ) → q < length d.faces → (up : HangsBy d cs hs spots js root q) → up.s.depth ≤ n
          → EndsAt root (path_by n js q)) → EndsAt root (path_by (suc n) js p)
      above None e j below go = absurd j
      above (Some j) e is below go =
          let joins = from_hinge d cs hs h.all by.s.hinge p by.s.parent.0 (by.is.joins below) in
          let up = hangs_by by.s.parent.0 joins.second in
          let deep : suc up.s.depth ≡ by.s.depth =
          subst (λ o. IsSomeAnd o (λ t. suc t.depth ≡ by.s.depth)) up.at (by.is.parent below) in
          let rest = go by.s.parent.0 joins.second up (omega (arith, deep, le)) in
          rw e (last_of_path (Some (record { 0 = p })) n js j.parent.0
          ∙ subst (λ (q : PanelId). EndsAt root (path_by n js q.0)) (sym is.parent) rest)

  -- the joint of a panel other than the root joins it to its parent
  joint_below : (p : ℕ) → p < length d.faces → p ≢ root → (P : Joint → Type 0)
      → ((j : Joint) → IsJointOf d j.edge.0 p j.parent.0 → IsTurnOf d cs j.edge.0 p j.turn → IsTurn j.turn
      → P j) → IsSomeAnd (joint_of js p) P
  joint_below p lt off P then' =
      let by = hangs_by p lt in
      elim (cases_lt 0 by.s.depth) [
        | inr ge ↦ absurd (off (flat_root p by ge))
        | inl below ↦ some_then (IsJointBy d cs hs p by.s) P (joint_of js p)
            (joint_by d cs hs p by.s (joint_of js p) below by.joint) (λ j is. then' j (joins by below j is) is.turn
            is.valid)
      ]
    where
      joins : (by : HangsBy d cs hs spots js root p) → 0 < by.s.depth → (j : Joint)
          → IsJointBy d cs hs p by.s j → IsJointOf d j.edge.0 p j.parent.0
      joins by below j is =
          subst (λ (q : PanelId). IsJointOf d j.edge.0 p q.0) (sym is.parent)
          (subst (λ (e : EdgeId). IsJointOf d e.0 p by.s.parent.0) (sym (is.edge blank))
          (from_hinge d cs hs h.all by.s.hinge p by.s.parent.0 (by.is.joins below)))

  -- what hangs makes a carton
  pub carton_from : (shapes : List Shape) → length shapes ≡ length d.faces
      → IsCarton (record { panels = shapes; root = root; joints = js; creases = cs })
  unfolding path
  carton_from shapes e = record {
    few = omega (arith, e, h.dieline.faces);
    few_creases = omega (arith, h.few, h.all.few);
    joints = h.whole ∙ sym e;
    root = omega (arith, e, h.root_in);
    top = let by = hangs_by root h.root_in in
        no_joint_by d cs hs root by.s (joint_of js root) (root_flat hs root spots by.s by.is) by.joint;
    others = λ p lt off. joint_below p (omega (arith, e, lt)) off (IsJointIn (length shapes))
        (λ j joins turns valid. record { parent = omega (arith, e, joins.second); turn = valid });
    ends = λ p lt. let in' : p < length d.faces = omega (arith, e, lt) in
        let by = hangs_by p in' in ends_by LONGEST_PATH p in' by by.deep;
  }

  -- the joint of the dieline that hangs a panel
  hung_edge : (e : ℕ) → IsJoint d e → (p : ℕ) × (p < length d.faces) × Hangs js e p
  hung_edge e joint =
      let t = to_hinge d cs hs h.all e joint.0 joint.1 joint.2 in
      let p = hanger hs root LONGEST_PATH (length d.faces) spots (within d cs hs h.all (length d.faces)
      (omega arith)) h.still_open h.known h.hang t.0 t.1 in
      let by = hangs_by p.0 p.1 in
      let hangs = subst (IsHanger t.0) by.at p.2 in (
        p.0,
        p.1,
        some_then (IsJointBy d cs hs p.0 by.s) (λ j. j.edge.0 ≡ e) (joint_of js p.0)
            (joint_by d cs hs p.0 by.s (joint_of js p.0) hangs.0 by.joint)
            (λ x j. ap (λ (y : EdgeId). y.0) (j.edge blank) ∙ ap (edge_of hs) hangs.1 ∙ t.2),
      )

  -- and the carton is the dieline's
  pub tree_from : (m : ℕ) (shapes : List Shape) → length shapes ≡ length d.faces → AreShapes m d shapes
      → IsTreeOf m d root (record { panels = shapes; root = root; joints = js; creases = cs })
  tree_from m shapes e are = record {
    shapes = are;
    panels = e;
    root = refl;
    creases = record {
      ordered = h.creases.ordered;
      free = h.creases.free;
      whole = λ k f. h.creases.whole k f.joint.2.crease.side_of_first.3.within f;
    };
    hung = λ p lt off. joint_below p lt off
        (IsHungBy d (record { panels = shapes; root = root; joints = js; creases = cs }) p)
        (λ j joins turns valid. record { joins = joins; turn = turns });
    hangs = hung_edge;
    carton = carton_from shapes e;
  }
