-- An edge joins two panels at most, and a dieline has one joint that hangs the one from the other.
use Rattle.std.proofs.Common.{◌≡◌, ℕ, ◌<◌, ◌⊎◌, inl, inr, List, ℤ, pos, neg_ℤ, unsigned_abs, Bool, true}
use Rattle.std.proofs.Common.{false, refl, sym, ◌∙◌, ap, subst, arith}
use Rattle.std.specs.Bool.{Decides}
use Rattle.std.specs.Cmp.{both_ways}
use Rattle.std.specs.Ordering.{int_eq}
use Rattle.std.proofs.lemmas.Bool.{cases_lt}
use Rattle.std.proofs.lemmas.Bool.Decides.{Decides-int_eq}
use Rattle.std.proofs.Math.Nat.{ℕ_set}
use Rattle.carton_base.specs.declared.dieline.RawDieline.{RawDieline}
use Rattle.carton_base.specs.declared.ids.EdgeId.{EdgeId}
use Rattle.carton_base.specs.declared.motion.Turn.{Turn}
use Rattle.carton_tree.specs.Joints.{IsSide, IsJointOf, IsTurnOf, LiesBeyond, AreCreases, across, from_of}
use Rattle.carton_tree.specs.Rules.{Never, IsThreefold}
use Rattle.carton_tree.specs.declared.joint.Joint.{Joint}
use Rattle.carton_tree.proofs.Gathering.{first_side, second_side}
use Rattle.carton_tree.proofs.FreeJoints.{one_spot}
use mathlib.Core.HLevel.{is_prop→PathP}

-- of two panels beside an edge, a third is one
among_ordered : (d : RawDieline) (e p q f : ℕ) → Never (IsThreefold d) → p < q → IsSide d e p → IsSide d e q
    → IsSide d e f → (f ≡ p) ⊎ (f ≡ q)
among_ordered d e p q f once lt sp sq sf = elim (cases_lt f p) [
  | inl below ↦ absurd (once e (f, p, q, below, lt, sf, sp, sq))
  | inr from ↦ elim (cases_lt p f) [
    | inr upto ↦ inl (omega (arith, from, upto))
    | inl above ↦ elim (cases_lt f q) [
      | inl mid ↦ absurd (once e (p, f, q, above, mid, sp, sf, sq))
      | inr from' ↦ elim (cases_lt q f) [
        | inl past ↦ absurd (once e (p, q, f, lt, past, sp, sq, sf))
        | inr upto' ↦ inr (omega (arith, from', upto'))
      ]
    ]
  ]
]

turned : {P Q : Type 0} → P ⊎ Q → Q ⊎ P
turned (inl p) = inr p
turned (inr q) = inl q

among : (d : RawDieline) (e p q f : ℕ) → Never (IsThreefold d) → ¬ (p ≡ q) → IsSide d e p → IsSide d e q
    → IsSide d e f → (f ≡ p) ⊎ (f ≡ q)
among d e p q f once apart sp sq sf = elim (cases_lt p q) [
  | inl lt ↦ among_ordered d e p q f once lt sp sq sf
  | inr ge ↦ elim (cases_lt q p) [
    | inl gt ↦ turned (among_ordered d e q p f once gt sq sp sf)
    | inr le ↦ absurd (apart (omega (arith, ge, le)))
  ]
]

pair : (p q f g : ℕ) → ¬ (f ≡ g) → (f ≡ p) ⊎ (f ≡ q) → (g ≡ p) ⊎ (g ≡ q)
    → ((f ≡ p) × (g ≡ q)) ⊎ ((f ≡ q) × (g ≡ p))
pair p q f g apart (inl a) (inl b) = absurd (apart (a ∙ sym b))
pair p q f g apart (inl a) (inr b) = inl (a, b)
pair p q f g apart (inr a) (inl b) = inr (a, b)
pair p q f g apart (inr a) (inr b) = absurd (apart (a ∙ sym b))

-- an edge that joins two panels joins no others
pub one_pair : (d : RawDieline) (e p q f g : ℕ) → Never (IsThreefold d) → IsJointOf d e p q
    → IsJointOf d e f g → ((f ≡ p) × (g ≡ q)) ⊎ ((f ≡ q) × (g ≡ p))
one_pair d e p q f g once a b =
    let x = first_side d e p q a in
    let y = second_side d e p q a in
    let first = among d e p q f once a.apart x y (first_side d e f g b) in
    let second = among d e p q g once a.apart x y (second_side d e f g b) in
    pair p q f g b.apart first second

-- a sign that is 1 where P, and else -1, is one
one_sign : (P : Type 0) (s t : ℤ) → (P → s ≡ pos 1) → (¬ P → s ≡ neg_ℤ (pos 1)) → (P → t ≡ pos 1)
    → (¬ P → t ≡ neg_ℤ (pos 1)) → s ≡ t
one_sign P s t up down up' down' = at (int_eq s t) (Decides-int_eq s t)
  where
    at : (b : Bool) → Decides b (s ≡ t) → s ≡ t
    at true is = is.0 refl
    at false is =
        let differ : ¬ (s ≡ t) = λ e. let same : false ≡ true = is.1 e in cc in
        let none : ¬ P = λ p. differ (up p ∙ sym (up' p)) in
        absurd (differ (down none ∙ sym (down' none)))

same_turn : (s t : Turn) → s.place ≡ t.place → s.upright ≡ t.upright → s.at ≡ t.at → s.sign ≡ t.sign → s ≡ t
same_turn s t p u a g = λ i. record {
  place = p i;
  upright = u i;
  at = a i;
  sign = g i;
  signed =
      is_prop→PathP (λ k. unsigned_abs (g k) ≡ 1)
      (λ k. ℕ_set (unsigned_abs (g k)) 1) s.signed t.signed i;
}

-- an edge turns a panel in one way
one_turn : (d : RawDieline) (cs : List EdgeId) (e f : ℕ) (s t : Turn) → AreCreases d cs → IsTurnOf d cs e f s
    → IsTurnOf d cs e f t → s ≡ t
one_turn d cs e f s t are h k =
    let upright : s.upright ≡ t.upright =
    both_ways s.upright t.upright (λ x. k.upright.1 (h.upright.0 x)) (λ x. h.upright.1 (k.upright.0 x)) in
    let at : s.at ≡ t.at = h.at ∙ ap (λ u. across u (from_of d e)) upright ∙ sym k.at in
    let lies : LiesBeyond d f s.upright s.at ≡ LiesBeyond d f t.upright t.at =
    λ i. LiesBeyond d f (upright i) (at i) in
    let there = subst (λ (P : Type 0). P) lies in
    let back = subst (λ (P : Type 0). P) (sym lies) in
    let sign = one_sign (LiesBeyond d f s.upright s.at) s.sign t.sign h.greater h.smaller
    (λ x. k.greater (there x)) (λ none. k.smaller (λ x. none (back x))) in
    same_turn s t (one_spot d cs e s.place t.place are h.place k.place) upright at sign

pub one_joint : (d : RawDieline) (cs : List EdgeId) (f : ℕ) (i j : Joint) → AreCreases d cs
    → i.edge.0 ≡ j.edge.0 → i.parent.0 ≡ j.parent.0 → IsTurnOf d cs i.edge.0 f i.turn
    → IsTurnOf d cs j.edge.0 f j.turn → i ≡ j
one_joint d cs f i j are edge parent h k =
    let turn = one_turn d cs j.edge.0 f i.turn j.turn are (subst (λ e. IsTurnOf d cs e f i.turn) edge h) k in
    λ n. record { edge = record { 0 = edge n }; parent = record { 0 = parent n }; turn = turn n }
