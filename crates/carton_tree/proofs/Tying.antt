-- The gathered joints are those of the dieline: their loops, their chains, and which panels hang by them.
use Rattle.std.proofs.Common.{◌≡◌, ℕ, zero, suc, ◌<◌, ◌≤◌, ◌⊎◌, inl, inr, ◌↔◌, List, length, get_or, map}
use Rattle.std.proofs.Common.{false, eqb, Option, Some, None, pos, refl, sym, ◌∙◌, ap, subst, arith}
use Rattle.std.specs.Prelude.{IsSome, IsSomeAnd}
use Rattle.std.proofs.lemmas.Bool.{cases_lt, cases_eq, cases_order, eq-eqb}
use Rattle.std.proofs.lemmas.List.{get_or_default, get_or-map, length-map}
use Rattle.std.proofs.lemmas.List.Folds.{list_any_at}
use Rattle.std.proofs.lemmas.Map.Steps.{le-length_from_below}
use Rattle.carton_base.specs.declared.dieline.RawDieline.{RawDieline}
use Rattle.carton_base.specs.declared.ids.EdgeId.{EdgeId}
use Rattle.carton_base.specs.declared.limits.TheConstants.{MOST_PANELS, LONGEST_PATH}
use Rattle.carton_tree.specs.declared.hinges.Hinge.{Hinge}
use Rattle.carton_tree.specs.declared.spots.Spot.{Spot}
use Rattle.carton_tree.specs.Joints.{IsJointOf}
use Rattle.carton_tree.specs.Chains.{AreJoined, LeadsTo, LeadsNear}
use Rattle.carton_tree.specs.Rules.{IsLeast, Never, IsLoop}
use Rattle.carton_tree.specs.Steps.{AreHinges, HingeJoins, ClosesLoop, AreOpen, IsFirstLoop, AreWithin, IsWay}
use Rattle.carton_tree.specs.Steps.{IsSpot, IsKnown, AreSpots, spot_at}
use Rattle.carton_tree.proofs.Options.{some_then, some_of}
use Rattle.carton_tree.proofs.Chains.{But, AreLoopless, Maps, at_those, joined_map, chain_map, joined_by}
use Rattle.carton_tree.proofs.Chains.{joined_then, joined_back, no_way_round}
use Rattle.carton_tree.proofs.Gathering.{joint_back}
use Rattle.carton_tree.proofs.Merging.{hinge_back, hinge_joins, hinge_only}

abbrev pub blank : Hinge
blank = record {
  edge = record { 0 = 0 };
  first = record { 0 = 0 };
  second = record { 0 = 0 };
  crease = None;
  upright = false;
  at = pos 0;
}

-- the joint at place i, and its edge
abbrev pub hinge_at : List Hinge → ℕ → Hinge
hinge_at hs i = get_or hs i blank

abbrev pub edge_of : List Hinge → ℕ → ℕ
edge_of hs i = (hinge_at hs i).edge.0

-- the joints of the dieline, and no others
abbrev pub AreAll : RawDieline → List EdgeId → List Hinge → Type 0
AreAll d cs hs = AreHinges d (length d.edges) cs hs

-- the gathered joints are those of the dieline
module _ (d : RawDieline) (cs : List EdgeId) (hs : List Hinge) (all : AreAll d cs hs) where
  in_order : (i j : ℕ) → i < length hs → j < length hs → edge_of hs i < edge_of hs j → i < j
  in_order i j il jl lt = elim (cases_order i j) [
    | inl e ↦ absurd (omega (arith, lt, ap (edge_of hs) e))
    | inr (inl l) ↦ l
    | inr (inr m) ↦ absurd (omega (arith, lt, all.ordered j i blank m il))
  ]

  -- a joint of the dieline is one of those gathered
  pub to_hinge : (j f g : ℕ) → IsJointOf d j f g
      → (i : ℕ) × (i < length hs) × (edge_of hs i ≡ j) × HingeJoins hs i f g
  to_hinge j f g joint =
      let a = all.whole j joint.crease.side_of_first.3.within (f, g, joint) in
      let at : (x : Hinge) → (get_or hs a.0 x).edge.0 ≡ j =
      λ x. ap (λ (h : Hinge). h.edge.0) (get_or_default hs a.0 x a.1 a.2 ∙ a.3) ∙ a.4 in (
        a.0,
        a.2,
        at blank,
        (
          a.2,
          λ x. (all.each a.0 x a.2).pair.only f g
              (subst (λ k. IsJointOf d k f g) (sym (at x)) joint),
        ),
      )

  -- and the other way round
  pub from_hinge : (i f g : ℕ) → HingeJoins hs i f g → IsJointOf d (edge_of hs i) f g
  from_hinge i f g j =
      let x = hinge_at hs i in
      let pair = (all.each i blank j.0).pair.joins in
      at_those (IsJointOf d (edge_of hs i)) f g x.first.0 x.second.0 (j.1 blank) pair
      (joint_back d (edge_of hs i) x.first.0 x.second.0 pair)

  -- chains of the dieline's joints below that at place i are chains of those before place i
  chain_to : (i : ℕ) → i < length hs → Maps (IsJointOf d) (HingeJoins hs) (edge_of hs i) i
  chain_to i il j f g lt joint =
      let t = to_hinge j f g joint in (t.0, in_order t.0 i t.1 il (omega (arith, lt, t.2)), t.3)

  chain_from : (i : ℕ) → i < length hs → Maps (HingeJoins hs) (IsJointOf d) i (edge_of hs i)
  chain_from i il j f g lt joins = (edge_of hs j, all.ordered j i blank lt il, from_hinge j f g joins)

  loop_at : (i : ℕ) → ClosesLoop hs i → IsLoop d (edge_of hs i)
  loop_at i loop = (
    loop.0,
    loop.1,
    from_hinge i loop.0 loop.1 loop.2,
    joined_map (HingeJoins hs) (IsJointOf d) i (edge_of hs i) (chain_from i loop.2.0) loop.0 loop.1 loop.3,
  )

  at_loop : (k : ℕ) → IsLoop d k → (i : ℕ) × (i < length hs) × (edge_of hs i ≡ k) × ClosesLoop hs i
  at_loop k loop =
      let t = to_hinge k loop.0 loop.1 loop.2 in
      let below = subst (λ n. AreJoined (IsJointOf d) n loop.0 loop.1) (sym t.2) loop.3 in
      let closed = joined_map (IsJointOf d) (HingeJoins hs) (edge_of hs t.0) t.0 (chain_to t.0 t.1) loop.0 loop.1
      below in
      (t.0, t.1, t.2, (loop.0, loop.1, t.3, closed))

  pub no_loops : AreOpen hs (length hs) → Never (IsLoop d)
  no_loops open' k loop = let t = at_loop k loop in open' t.0 t.1 t.3

  pub first_loop : (e : EdgeId) → IsFirstLoop hs e → IsLeast (IsLoop d) e.0
  first_loop e f = let at : edge_of hs f.0 ≡ e.0 = ap (λ (x : EdgeId). x.0) (f.2 blank) in (
    subst (IsLoop d) at (loop_at f.0 f.3),
    λ k lt loop. let t = at_loop k loop in
        f.4 t.0 (in_order t.0 f.0 t.1 f.1 (omega (arith, t.2, at, lt))) t.3,
  )

  -- chains of all joints
  all_to : Maps (IsJointOf d) (HingeJoins hs) (length d.edges) (length hs)
  all_to j f g lt joint = let t = to_hinge j f g joint in (t.0, t.1, t.3)

  all_from : Maps (HingeJoins hs) (IsJointOf d) (length hs) (length d.edges)
  all_from j f g lt joins =
      let h = from_hinge j f g joins in (edge_of hs j, h.crease.side_of_first.3.within, h)

  pub leads_iff : (p r : ℕ) → LeadsTo d p r ↔ AreJoined (HingeJoins hs) (length hs) p r
  leads_iff p r = (
    joined_map (IsJointOf d) (HingeJoins hs) (length d.edges) (length hs) all_to p r,
    joined_map (HingeJoins hs) (IsJointOf d) (length hs) (length d.edges) all_from p r,
  )

  pub near_from : (n p r : ℕ) → n ≤ LONGEST_PATH → IsWay hs r n p → LeadsNear d p r
  near_from n p r le w =
      (n, le, chain_map (HingeJoins hs) (IsJointOf d) (length hs) (length d.edges) all_from n p r w)

  pub near_to : (p r : ℕ) → LeadsNear d p r → (n : ℕ) × (n ≤ LONGEST_PATH) × IsWay hs r n p
  near_to p r h =
      (h.0, h.1, chain_map (IsJointOf d) (HingeJoins hs) (length d.edges) (length hs) all_to h.0 p r h.2)

  -- the panels of joints are panels
  pub within : (n : ℕ) → length d.faces ≤ n → AreWithin n hs
  within n le = λ i x lt. let j = (all.each i x lt).pair.joins in
      (omega (arith, le, j.first), omega (arith, le, j.second))

-- the panel hangs by the joint at place i
abbrev pub IsHanger : ℕ → Option Spot → Type 0
IsHanger i o = IsSomeAnd o (λ s. (0 < s.depth) × (s.hinge ≡ i))

is_hanger : (i : ℕ) (o : Option Spot) → IsHanger i o ⊎ ¬ (IsHanger i o)
is_hanger i None = inr (λ h. h)
is_hanger i (Some s) = elim (cases_lt 0 s.depth) [
  | inl l ↦ elim (cases_eq s.hinge i) [ inl e ↦ inl (l, e) | inr n ↦ inr (λ h. n h.1) ]
  | inr g ↦ inr (λ h. omega (arith, g, h.0))
]

-- the place of the joint by which a panel hangs
abbrev number : Option Spot → ℕ
number None = 0
number (Some s) = s.hinge

numbered : (i : ℕ) (o : Option Spot) → IsHanger i o → number o ≡ i
numbered i None h = absurd h
numbered i (Some s) h = h.1

-- where the first n panels hang, and no joint closes a loop
module _ (hs : List Hinge) (root r n : ℕ) (spots : List (Option Spot)) (in' : AreWithin n hs)
    (open' : AreOpen hs (length hs)) (are : AreSpots hs root r spots)
    (hang : (q : ℕ) → q < n → IsSome (spot_at spots q)) where
  loopless : AreLoopless (HingeJoins hs) (length hs) (λ k. (hinge_at hs k).first.0)
      (λ k. (hinge_at hs k).second.0)
  loopless = record {
    has = λ k lt. hinge_joins hs k (hinge_at hs k) lt (get_or_default hs k blank (hinge_at hs k) lt);
    only = λ k f g j. hinge_only hs k (hinge_at hs k) (get_or_default hs k blank (hinge_at hs k) j.0) f g j;
    back = hinge_back hs;
    still_open = λ k a b l j w. open' k l (a, b, j, w);
  }

  -- if no panel hung by the joint at i, the other joints would lead each panel to the root
  climbs : (i : ℕ) → ((q : ℕ) → ¬ (IsHanger i (spot_at spots q))) → (m p : ℕ) (o : Option Spot)
      → spot_at spots p ≡ o → IsSomeAnd o (λ s. s.depth < m) → AreJoined (But (HingeJoins hs) i) (length hs) p root
  climbs i nobody m p None e h = absurd h
  climbs i nobody zero p (Some s) e h = absurd (omega (arith, h))
  climbs i nobody (suc m) p (Some s) e h =
      let is = (subst (IsKnown hs spots root r p) e (are.known p)).0 in
      elim (cases_lt 0 s.depth) [
        | inl l ↦
            let by : ¬ (s.hinge ≡ i) = λ at. nobody p (subst (IsHanger i) (sym e) (l, at)) in
            let above = some_then (λ t. suc t.depth ≡ s.depth) (λ t. t.depth < m) (spot_at spots s.parent.0)
            (is.parent l) (λ t k. omega (arith, k, h)) in
            joined_then (But (HingeJoins hs) i) (length hs) p s.parent.0 root
            (joined_by (But (HingeJoins hs) i) (length hs) s.hinge p s.parent.0 (is.joins l).0 (is.joins l, by))
            (climbs i nobody m s.parent.0 (spot_at spots s.parent.0) refl above)
        | inr g ↦
            let flat : s.depth ≡ 0 = omega (arith, g) in (zero, subst (λ k. IsWay hs root k p) flat is.leads)
      ]

  -- a panel that hangs by the joint at i is one of its two
  hangs_either : (i q : ℕ) (o : Option Spot) → spot_at spots q ≡ o → IsHanger i o
      → (q ≡ (hinge_at hs i).first.0) ⊎ (q ≡ (hinge_at hs i).second.0)
  hangs_either i q None e h = absurd h
  hangs_either i q (Some s) e h =
      let is = (subst (IsKnown hs spots root r q) e (are.known q)).0 in
      let joins = subst (λ k. HingeJoins hs k q s.parent.0) h.1 (is.joins h.0) in
      elim (joins.1 blank) [ inl at ↦ inl at.0 | inr at ↦ inr at.0 ]

  -- so some panel hangs by each joint
  pub hanger : (i : ℕ) → i < length hs → (p : ℕ) × (p < n) × IsHanger i (spot_at spots p)
  hanger i lt =
      let f = (hinge_at hs i).first.0 in
      let g = (hinge_at hs i).second.0 in
      let J = But (HingeJoins hs) i in
      elim (is_hanger i (spot_at spots f)) [
        | inl h ↦ (f, (in' i blank lt).0, h)
        | inr nf ↦ elim (is_hanger i (spot_at spots g)) [
          | inl h ↦ (g, (in' i blank lt).1, h)
          | inr ng ↦
              let nobody : (q : ℕ) → ¬ (IsHanger i (spot_at spots q)) = λ q h.
              elim (hangs_either i q (spot_at spots q) refl h) [
                | inl e ↦ nf (subst (λ x. IsHanger i (spot_at spots x)) e h)
                | inr e ↦ ng (subst (λ x. IsHanger i (spot_at spots x)) e h)
              ] in
              let up : (q : ℕ) → q < n → AreJoined J (length hs) q root = λ q l.
              climbs i nobody (suc r) q (spot_at spots q) refl (some_of
              (λ s. IsSpot hs spots root q s × (s.depth ≤ r)) (λ s. s.depth < suc r) (spot_at spots q) (hang q l)
              (are.known q) (λ s k. omega (arith, k.1))) in
              let round = joined_then J (length hs) f root g (up f (in' i blank lt).0)
              (joined_back J (length hs) (λ j a b h. (hinge_back hs j a b h.0, h.1)) g root
              (up g (in' i blank lt).1)) in
              absurd (no_way_round (HingeJoins hs) (length hs) (λ k. (hinge_at hs k).first.0)
              (λ k. (hinge_at hs k).second.0) loopless i f g (loopless.has i lt) (length hs) (omega arith) lt round)
        ]
      ]

  -- so there are at most as many joints as panels
  pub few_joints : n ≤ MOST_PANELS → length hs ≤ MOST_PANELS
  few_joints le =
      let all = le-length_from_below (map number spots) (length hs) (λ i lt.
      let h = hanger i lt in
      let here : h.0 < length spots = omega (arith, le, h.1, are.count) in
      let there : h.0 < length (map number spots) = omega (arith, here, length-map spots number) in
      let same : i ≡ get_or (map number spots) h.0 0 =
      sym (get_or-map number spots h.0 None 0 here ∙ numbered i (spot_at spots h.0) h.2) in
      list_any_at (eqb i) (map number spots) h.0 0 there (eq-eqb i (get_or (map number spots) h.0 0) same)) in
      omega (arith, all, length-map spots number, are.count)
