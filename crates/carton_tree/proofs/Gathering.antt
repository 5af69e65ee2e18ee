-- The joints of a dieline, gathered edge by edge.
use Rattle.std.proofs.Common.{◌≡◌, ℕ, ◌+◌, ◌<◌, ◌≤◌, ◌⊎◌, inl, inr, List, [], ◌∷◌, ◌++◌, length, get_or}
use Rattle.std.proofs.Common.{Option, Some, None, refl, sym, ◌∙◌, ap, subst, arith}
use Rattle.std.specs.Prelude.{Contains, slice_get}
use Rattle.std.proofs.lemmas.Bool.{cases_lt, cases_order}
use Rattle.std.proofs.lemmas.List.{get_or_append_left, get_or_push, length_push, length-append}
use Rattle.std.proofs.lemmas.List.Elements.{Contains-append_left, Contains-push, All-push}
use Rattle.std.proofs.lemmas.List.Quantifiers.{all_pairs_push, Any-push}
use Rattle.carton_base.specs.declared.dieline.RawDieline.{RawDieline}
use Rattle.carton_base.specs.declared.dieline.Letter.{Letter}
use Rattle.carton_base.specs.declared.ids.EdgeId.{EdgeId}
use Rattle.carton_base.specs.declared.ids.PanelId.{PanelId}
use Rattle.carton_panels.specs.Creases.{Joins}
use Rattle.carton_tree.specs.declared.hinges.Hinge.{Hinge}
use Rattle.carton_tree.specs.declared.besides.Beside.{Beside}
use Rattle.carton_tree.specs.declared.besides.Beside.TheVariants.{Nobody, One, Two, More}
use Rattle.carton_tree.specs.Joints.{IsSide, IsJointOf, IsJoint, IsFree, IsPlace}
use Rattle.carton_tree.specs.Rules.{IsThreefold}
use Rattle.carton_tree.specs.Steps.{IsBeside, with_next, AreBesides, IsPair, IsHinge, AreCreasesBelow}
use Rattle.carton_tree.specs.Steps.{AreHinges}
use Rattle.carton_tree.proofs.Keeping.{at_more}

-- one panel more beside an edge, or none
pub beside_more : (P : ℕ → Type 0) (n : ℕ) (b : Beside) (p : PanelId) → p.0 ≡ n → P n → IsBeside P n b
    → IsBeside P (n + 1) (with_next b p)
beside_more P n Nobody p e h b = (
  omega (arith, e),
  subst P (sym e) h,
  λ k lt q. elim (cases_order k n) [
    | inl s ↦ s ∙ sym e
    | inr (inl l) ↦
        absurd (b k l q)
    | inr (inr m) ↦ absurd (omega (arith, lt, m))
  ],
)
beside_more P n (One f) p e h b = (
  omega (arith, b.0, e),
  omega (arith, e),
  b.1,
  subst P (sym e) h,
  λ k lt q. elim (cases_order k n)
      [ inl s ↦ inr (s ∙ sym e) | inr (inl l) ↦ inl (b.2 k l q) | inr (inr m) ↦ absurd (omega (arith, lt, m)) ],
)
beside_more P n (Two f g) p e h b = (f.0, g.0, n, b.0, b.1, omega arith, b.2, b.3, h)
beside_more P n More p e h b = (b.0, b.1, b.2, b.3, b.4, omega (arith, b.5), b.6, b.7, b.8)

pub beside_same : (P : ℕ → Type 0) (n : ℕ) (b : Beside) → ¬ (P n) → IsBeside P n b → IsBeside P (n + 1) b
beside_same P n Nobody h b = λ k lt q. elim (cases_order k n) [
  | inl s ↦ h (subst P s q)
  | inr (inl l) ↦
      b k l q
  | inr (inr m) ↦ omega (arith, lt, m)
]
beside_same P n (One f) h b = (
  omega (arith, b.0),
  b.1,
  λ k lt q. elim (cases_order k n) [
    | inl s ↦
        absurd (h (subst P s q))
    | inr (inl l) ↦ b.2 k l q
    | inr (inr m) ↦ absurd (omega (arith, lt, m))
  ],
)
beside_same P n (Two f g) h b = (
  b.0,
  omega (arith, b.1),
  b.2,
  b.3,
  λ k lt q. elim (cases_order k n) [
    | inl s ↦
        absurd (h (subst P s q))
    | inr (inl l) ↦ b.4 k l q
    | inr (inr m) ↦ absurd (omega (arith, lt, m))
  ],
)
beside_same P n More h b = (b.0, b.1, b.2, b.3, b.4, omega (arith, b.5), b.6, b.7, b.8)

-- the panels beside one edge more
pub one_edge_more : (d : RawDieline) (all : List Beside) (b : Beside) (k : ℕ) → length all ≡ k
    → k < length d.edges → AreBesides d all
    → IsBeside (IsSide d k) (length d.faces) b → AreBesides d (all ++ b ∷ [])
one_edge_more d all b n count lt h is = record {
  few = omega (arith, count, lt, length_push all b);
  each = λ k x less. at_more (λ k. IsBeside (IsSide d k) (length d.faces)) all b n count is
      (λ k x l. h.each k x (omega (arith, count, l))) k x (omega (arith, count, less, length_push all b));
}

-- the panels of a joint have it for a side
pub first_side : (d : RawDieline) (k f g : ℕ) → IsJointOf d k f g → IsSide d k f
first_side d k f g j = record { panel = j.first; side = j.crease.side_of_first }

pub second_side : (d : RawDieline) (k f g : ℕ) → IsJointOf d k f g → IsSide d k g
second_side d k f g j = record { panel = j.second; side = j.crease.side_of_second }

pub joint_back : (d : RawDieline) (k f g : ℕ) → IsJointOf d k f g → IsJointOf d k g f
joint_back d k f g j = record {
  first = j.second;
  second = j.first;
  apart = λ e. j.apart (sym e);
  crease = record {
    joins = j.crease.joins;
    side_of_first = j.crease.side_of_second;
    side_of_second = j.crease.side_of_first;
  };
}

abbrev MayJoin : RawDieline → ℕ → Type 0
MayJoin d k = (l : Letter) → slice_get d.letters k ≡ Some l → Joins l

-- two panels of two are those
both_of_two : (p q f g : ℕ) → ¬ (p ≡ q) → (p ≡ f) ⊎ (p ≡ g) → (q ≡ f) ⊎ (q ≡ g) → ((p ≡ f) × (q ≡ g))
    ⊎ ((p ≡ g) × (q ≡ f))
both_of_two p q f g n (inl a) (inl b) = absurd (n (a ∙ sym b))
both_of_two p q f g n (inl a) (inr b) = inl (a, b)
both_of_two p q f g n (inr a) (inl b) = inr (a, b)
both_of_two p q f g n (inr a) (inr b) = absurd (n (a ∙ sym b))

-- an edge with two panels beside it, whose letter lets it join, joins these alone
pub pair_of_two : (d : RawDieline) (k : ℕ) (f g : PanelId) → MayJoin d k
    → IsBeside (IsSide d k) (length d.faces) (Two f g) → IsPair d k f.0 g.0
pair_of_two d k f g joins b = record {
  joins = record {
    first = b.2.panel;
    second = b.3.panel;
    apart = λ e. omega (arith, b.0, e);
    crease = record { joins = joins; side_of_first = b.2.side; side_of_second = b.3.side };
  };
  only = λ p q j. both_of_two p q f.0 g.0 j.apart (b.4 p j.first (first_side d k p q j))
      (b.4 q j.second (second_side d k p q j));
}

-- edges with fewer panels, or a letter that bars it, are no joints
pub no_joint_of_nobody : (d : RawDieline) (k : ℕ) → IsBeside (IsSide d k) (length d.faces) Nobody
    → ¬ (IsJoint d k)
no_joint_of_nobody d k b j = b j.0 j.2.first (first_side d k j.0 j.1 j.2)

pub no_joint_of_one : (d : RawDieline) (k : ℕ) (f : PanelId) → IsBeside (IsSide d k) (length d.faces) (One f)
    → ¬ (IsJoint d k)
no_joint_of_one d k f b j =
    j.2.apart (b.2 j.0 j.2.first (first_side d k j.0 j.1 j.2)
    ∙ sym (b.2 j.1 j.2.second (second_side d k j.0 j.1 j.2)))

pub threefold : (d : RawDieline) (k : ℕ) → IsBeside (IsSide d k) (length d.faces) More → IsThreefold d k
threefold d k b = (b.0, b.1, b.2, b.3, b.4, b.6, b.7, b.8)

-- three different numbers aren't among two
pub not_threefold : (d : RawDieline) (k : ℕ) (b : Beside) → ¬ (b ≡ More)
    → IsBeside (IsSide d k) (length d.faces) b → ¬ (IsThreefold d k)
not_threefold d k Nobody n b t = b t.0 t.5.panel t.5
not_threefold d k (One f) n b t = absurd (omega (arith, t.3, b.2 t.0 t.5.panel t.5, b.2 t.1 t.6.panel t.6))
not_threefold d k (Two f g) n b t =
    three t.0 t.1 t.2 f.0 g.0 t.3 t.4 (b.4 t.0 t.5.panel t.5) (b.4 t.1 t.6.panel t.6) (b.4 t.2 t.7.panel t.7)
  where
    three : (x y z f g : ℕ) → x < y → y < z → (x ≡ f) ⊎ (x ≡ g) → (y ≡ f) ⊎ (y ≡ g) → (z ≡ f) ⊎ (z ≡ g) → ⊥
    three x y z f g l m (inl a) (inl b) c = omega (arith, l, a, b)
    three x y z f g l m (inr a) (inr b) c = omega (arith, l, a, b)
    three x y z f g l m (inl a) (inr b) (inl c) = omega (arith, l, m, a, c)
    three x y z f g l m (inl a) (inr b) (inr c) = omega (arith, m, b, c)
    three x y z f g l m (inr a) (inl b) (inl c) = omega (arith, m, b, c)
    three x y z f g l m (inr a) (inl b) (inr c) = omega (arith, l, m, a, c)
not_threefold d k More n b t = n refl

-- an edge below k + 1 is k or below k
last_or_below : (j k : ℕ) → j < k + 1 → (j ≡ k) ⊎ (j < k)
last_or_below j k lt = elim (cases_lt j k) [ inl l ↦ inr l | inr g ↦ inl (omega (arith, lt, g)) ]

-- an edge that isn't free changes nothing
pub creases_stay : (d : RawDieline) (k : ℕ) (cs : List EdgeId) → ¬ (IsFree d k) → AreCreasesBelow d k cs
    → AreCreasesBelow d (k + 1) cs
creases_stay d k cs n h = record {
  ordered = h.ordered;
  below = λ i e lt. omega (arith, h.below i e lt);
  free = h.free;
  whole = λ j lt f. elim (last_or_below j k lt) [
    | inl e ↦ absurd (n (subst (IsFree d) e f))
    | inr l ↦
        h.whole j l f
  ];
}

pub creases_grow : (d : RawDieline) (k : ℕ) (cs : List EdgeId) (e : EdgeId) → e.0 ≡ k → IsFree d k
    → AreCreasesBelow d k cs → AreCreasesBelow d (k + 1) (cs ++ e ∷ [])
creases_grow d k cs e is f h = record {
  ordered =
      all_pairs_push (λ (a b : EdgeId). a.0 < b.0) cs e h.ordered
      (λ i x lt. omega (arith, h.below i x lt, is));
  below = All-push (λ (x : EdgeId). x.0 < k + 1) cs e (λ i x lt. omega (arith, h.below i x lt))
      (omega (arith, is));
  free = All-push (λ (x : EdgeId). IsFree d x.0) cs e h.free (subst (IsFree d) (sym is) f);
  whole = λ j lt g. elim (last_or_below j k lt) [
    | inl at ↦ subst (λ (x : EdgeId). Contains (cs ++ e ∷ []) x) (ap (λ n. record { 0 = n }) (is ∙ sym at))
        (Contains-push cs e)
    | inr l ↦ Contains-append_left cs (e ∷ []) (record { 0 = j }) (h.whole j l g)
  ];
}

-- a place stays where the list of free joints grows
place_stays : (d : RawDieline) (cs more : List EdgeId) (k : ℕ) (p : Option ℕ) → IsPlace d cs k p
    → IsPlace d (cs ++ more) k p
place_stays d cs more k None h = h
place_stays d cs more k (Some n) h = (
  omega (arith, h.0, length-append cs more),
  λ e. subst (λ (x : EdgeId). x.0 ≡ k)
      (sym (get_or_append_left cs more e n h.0)) (h.1 e),
)

hinge_stays : (d : RawDieline) (cs more : List EdgeId) (h : Hinge) → IsHinge d cs h → IsHinge d (cs ++ more) h
hinge_stays d cs more h is =
    record {
      pair = is.pair;
      place = place_stays d cs more h.edge.0 h.crease is.place;
      upright = is.upright;
      at = is.at;
    }

-- one joint more, which may be a free one
pub hinges_grow : (d : RawDieline) (k : ℕ) (cs more : List EdgeId) (hs : List Hinge) (x : Hinge)
    → x.edge.0 ≡ k → length more ≤ 1 → IsHinge d (cs ++ more) x → AreHinges d k cs hs
    → AreHinges d (k + 1) (cs ++ more) (hs ++ x ∷ [])
hinges_grow d k cs more hs x is one here h = record {
  ordered = all_pairs_push (λ (a b : Hinge). a.edge.0 < b.edge.0) hs x h.ordered
      (λ i y lt. omega (arith, h.below i y lt, is));
  below = All-push (λ (y : Hinge). y.edge.0 < k + 1) hs x (λ i y lt. omega (arith, h.below i y lt))
      (omega (arith, is));
  each = All-push (IsHinge d (cs ++ more)) hs x
      (λ i y lt. hinge_stays d cs more (get_or hs i y) (h.each i y lt)) here;
  whole = λ j lt f. elim (last_or_below j k lt) [
    | inl at ↦ Any-push (λ (y : Hinge). y.edge.0 ≡ j) hs x (is ∙ sym at)
    | inr l ↦ let a = h.whole j l f in (
      a.0,
      a.1,
      omega (arith, length_push hs x, a.2),
      get_or_append_left hs (x ∷ []) a.1 a.0 a.2
          ∙ a.3,
      a.4,
    )
  ];
  few = omega (arith, length-append cs more, length_push hs x, h.few);
}

-- the same, where the lists that grew are told
pub hinges_add : (d : RawDieline) (k : ℕ) (cs more now : List EdgeId) (hs all : List Hinge) (x : Hinge)
    → now ≡ cs ++ more → all ≡ hs → x.edge.0 ≡ k → length more ≤ 1 → IsHinge d now x → AreHinges d k cs hs
    → AreHinges d (k + 1) now (all ++ x ∷ [])
hinges_add d k cs more now hs all x e f is one here h =
    let grown = hinges_grow d k cs more hs x is one (subst (λ (l : List EdgeId). IsHinge d l x) e here) h in
    subst (λ (l : List EdgeId). AreHinges d (k + 1) l (all ++ x ∷ [])) (sym e)
    (subst (λ (l : List Hinge). AreHinges d (k + 1) (cs ++ more) (l ++ x ∷ [])) (sym f) grown)

-- the place of the free joint that was added last
pub last_place : (d : RawDieline) (k n : ℕ) (cs now : List EdgeId) (e : EdgeId) → e.0 ≡ k → n ≡ length cs
    → now ≡ cs ++ e ∷ [] → IsPlace d now k (Some n)
last_place d k n cs now e is at grown =
    subst (λ (l : List EdgeId). IsPlace d l k (Some n)) (sym grown)
    (omega (arith, at, length_push cs e), λ x. ap (λ (y : EdgeId). y.0) (get_or_push cs e x n (sym at)) ∙ is)
