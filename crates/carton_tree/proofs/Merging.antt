-- Groups of panels, and a joint that makes one of two.
use Rattle.std.proofs.Common.{◌≡◌, ℕ, ◌+◌, ◌<◌, ◌⊎◌, inl, inr, List, length, get_or, cond, nat_eq}
use Rattle.std.proofs.Common.{refl, sym, ◌∙◌, ap, subst, arith}
use Rattle.std.proofs.lemmas.Bool.{cases_eq, eq-eqb, ne_eqb}
use Rattle.std.proofs.lemmas.List.{get_or_default}
use Rattle.carton_tree.specs.declared.hinges.Hinge.{Hinge}
use Rattle.carton_tree.specs.Chains.{AreJoined}
use Rattle.carton_tree.specs.Steps.{HingeJoins, AreGroups, ClosesLoop}
use Rattle.carton_tree.proofs.Chains.{JoinsOnly, IsSplit, split, joined_through, joined_more, joined_back}

-- a joint joins both ways
pub hinge_back : (hs : List Hinge) (k f g : ℕ) → HingeJoins hs k f g → HingeJoins hs k g f
hinge_back hs k f g h = (h.0, λ d. other (h.1 d))
  where
    other : {f g a b : ℕ} → ((f ≡ a) × (g ≡ b)) ⊎ ((f ≡ b) × (g ≡ a)) → ((g ≡ a) × (f ≡ b))
        ⊎ ((g ≡ b) × (f ≡ a))
    other (inl e) = inr (e.1, e.0)
    other (inr e) = inl (e.1, e.0)

-- the joint at k joins its two panels, and no others
pub hinge_joins : (hs : List Hinge) (k : ℕ) (h : Hinge) → k < length hs → h ≡ get_or hs k h
    → HingeJoins hs k h.first.0 h.second.0
hinge_joins hs k h lt is = (
  lt,
  λ d. subst (λ (x : Hinge). ((h.first.0 ≡ x.first.0) × (h.second.0 ≡ x.second.0))
      ⊎ ((h.first.0 ≡ x.second.0) × (h.second.0 ≡ x.first.0))) (is ∙ get_or_default hs k h d lt)
      (inl (refl, refl)),
)

pub hinge_only : (hs : List Hinge) (k : ℕ) (h : Hinge) → h ≡ get_or hs k h
    → JoinsOnly (HingeJoins hs) k h.first.0 h.second.0
hinge_only hs k h is =
    λ f g j. subst (λ (x : Hinge). ((f ≡ x.first.0) × (g ≡ x.second.0))
    ⊎ ((f ≡ x.second.0) × (g ≡ x.first.0))) (sym is) (j.1 h)

-- the group after one was put into another
abbrev pub moved : ℕ → ℕ → ℕ → ℕ
moved a b x = cond (nat_eq x a) b x

moved_at : (a b x : ℕ) → x ≡ a → moved a b x ≡ b
moved_at a b x e = ap (λ t. cond t b x) (eq-eqb x a e)

moved_off : (a b x : ℕ) → ¬ (x ≡ a) → moved a b x ≡ x
moved_off a b x n = ap (λ t. cond t b x) (ne_eqb x a n)

-- groups are one after a move exactly where they were, or were the two that became one
same_moved : (a b x y : ℕ) → moved a b x ≡ moved a b y → (x ≡ y) ⊎ (((x ≡ a) × (y ≡ b)) ⊎ ((x ≡ b) × (y ≡ a)))
same_moved a b x y e = elim (cases_eq x a) [
  | inl xa ↦ elim (cases_eq y a) [
    | inl ya ↦ inl (xa ∙ sym ya)
    | inr yn ↦ inr (inl (xa, sym (moved_off a b y yn) ∙ sym e ∙ moved_at a b x xa))
  ]
  | inr xn ↦ elim (cases_eq y a) [
    | inl ya ↦ inr (inr (sym (moved_off a b x xn) ∙ e ∙ moved_at a b y ya, ya))
    | inr yn ↦ inl (sym (moved_off a b x xn) ∙ e ∙ moved_off a b y yn)
  ]
]

moved_same : (a b x y : ℕ) → ¬ (a ≡ b) → (x ≡ a) → (y ≡ b) → moved a b x ≡ moved a b y
moved_same a b x y n xa yb = moved_at a b x xa ∙ sym yb ∙ sym (moved_off a b y (λ ya. n (sym ya ∙ yb)))

abbrev pub group_of : List ℕ → ℕ → ℕ
group_of groups f = get_or groups f 0

-- one joint more, whose panels were in two groups
pub groups_more : (hs : List Hinge) (n k : ℕ) (h : Hinge) (old new : List ℕ) → AreGroups hs n k old
    → k < length hs → h ≡ get_or hs k h → h.first.0 < n → h.second.0 < n
    → ¬ (group_of old h.first.0 ≡ group_of old h.second.0)
    → ((f : ℕ) → f < n
    → group_of new f ≡ moved (group_of old h.first.0) (group_of old h.second.0) (group_of old f))
    → AreGroups hs n (k + 1) new
groups_more hs n k h old new groups lt is fn sn apart moves = λ f g fl gl. (
  λ e. elim (same_moved (group_of old h.first.0) (group_of old h.second.0) (group_of old f) (group_of old g)
      (sym (moves f fl) ∙ e ∙ moves g gl)) [
        | inl s ↦ joined_more (HingeJoins hs) k (k + 1) f g (omega arith) ((groups f g fl gl).0 s)
        | inr (inl t) ↦ joined_through (HingeJoins hs) k h.first.0 h.second.0 f g (hinge_joins hs k h lt is)
            ((groups f h.first.0 fl fn).0 t.0, (groups h.second.0 g sn gl).0 (sym t.1))
        | inr (inr t) ↦
            joined_through (HingeJoins hs) k h.second.0 h.first.0 f g
            (hinge_back hs k h.first.0 h.second.0 (hinge_joins hs k h lt is))
            ((groups f h.second.0 fl sn).0 t.0, (groups h.first.0 g fn gl).0 (sym t.1))
      ],
  λ j. moves f fl
      ∙ merged f g fl gl (split (HingeJoins hs) k h.first.0 h.second.0 (hinge_only hs k h is) f g j)
      ∙ sym (moves g gl),
)
  where
    merged : (f g : ℕ) → f < n → g < n → IsSplit (HingeJoins hs) k h.first.0 h.second.0 f g
        → moved (group_of old h.first.0) (group_of old h.second.0) (group_of old f)
        ≡ moved (group_of old h.first.0) (group_of old h.second.0) (group_of old g)
    merged f g fl gl (inl j) =
        ap (moved (group_of old h.first.0) (group_of old h.second.0)) ((groups f g fl gl).1 j)
    merged f g fl gl (inr (inl t)) =
        moved_same (group_of old h.first.0) (group_of old h.second.0) (group_of old f) (group_of old g) apart
        ((groups f h.first.0 fl fn).1 t.0) (sym ((groups h.second.0 g sn gl).1 t.1))
    merged f g fl gl (inr (inr t)) =
        sym (moved_same (group_of old h.first.0) (group_of old h.second.0) (group_of old g) (group_of old f)
        apart (sym ((groups h.first.0 g fn gl).1 t.1)) ((groups f h.second.0 fl sn).1 t.0))

-- a joint of panels that aren't in one group closes no loop
pub not_closed : (hs : List Hinge) (n k : ℕ) (h : Hinge) (groups : List ℕ) → AreGroups hs n k groups
    → h ≡ get_or hs k h → h.first.0 < n → h.second.0 < n
    → ¬ (group_of groups h.first.0 ≡ group_of groups h.second.0) → ¬ (ClosesLoop hs k)
not_closed hs n k h groups are is fn sn apart loop =
    apart ((are h.first.0 h.second.0 fn sn).1 (ends (hinge_only hs k h is loop.0 loop.1 loop.2)))
  where
    ends : ((loop.0 ≡ h.first.0) × (loop.1 ≡ h.second.0)) ⊎ ((loop.0 ≡ h.second.0) × (loop.1 ≡ h.first.0))
        → AreJoined (HingeJoins hs) k h.first.0 h.second.0
    ends (inl e) =
        subst (λ x. AreJoined (HingeJoins hs) k x h.second.0) e.0
        (subst (λ y. AreJoined (HingeJoins hs) k loop.0 y) e.1 loop.3)
    ends (inr e) = joined_back (HingeJoins hs) k (hinge_back hs) h.second.0 h.first.0
        (subst (λ x. AreJoined (HingeJoins hs) k x h.first.0) e.0
        (subst (λ y. AreJoined (HingeJoins hs) k loop.0 y) e.1 loop.3))

-- a joint of panels in one group closes a loop
pub closed : (hs : List Hinge) (n k : ℕ) (h : Hinge) (groups : List ℕ) → AreGroups hs n k groups
    → k < length hs → h ≡ get_or hs k h → h.first.0 < n → h.second.0 < n → group_of groups h.first.0
    ≡ group_of groups h.second.0 → ClosesLoop hs k
closed hs n k h groups are lt is fn sn same =
    (h.first.0, h.second.0, hinge_joins hs k h lt is, (are h.first.0 h.second.0 fn sn).0 same)
