-- A dieline, a margin and a root determine by which rule the dieline is refused.
use Rattle.std.proofs.Common.{◌≡◌, ◌≢◌, ℕ, ◌<◌, ◌≤◌, ◌⊎◌, inl, inr, length, arith, sym, ◌∙◌, ap, refl, Ok}
use Rattle.std.proofs.Common.{Err, Option, Some, None}
use Rattle.std.proofs.lemmas.Bool.{cases_lt}
use Rattle.carton_base.specs.declared.dieline.RawDieline.{RawDieline}
use Rattle.carton_base.specs.declared.ids.PanelId.{PanelId}
use Rattle.carton_panels.specs.declared.error.PanelError.{PanelError}
use Rattle.carton_tree.specs.declared.error.TreeError.{TreeError}
use Rattle.carton_tree.specs.declared.error.TreeError.TheVariants.{Panel, SideNoEdge, ThreeFaces, SameSide}
use Rattle.carton_tree.specs.declared.error.TreeError.TheVariants.{Slanted, Loop, NoRoot, Apart, TooDeep}
use Rattle.carton_tree.specs.declared.error.TreeError.TheVariants.{Memory}
use Rattle.carton_tree.specs.Answers.{IsFirstRefused, IsPanelsAnswer, IsEdgesAnswer, IsHungAnswer}
use Rattle.carton_tree.specs.Answers.{IsTreeAnswer}
use Rattle.carton_tree.specs.Rules.{IsLeast, Never, IsBare, IsSooner, IsThreefold, IsOneWay, IsSlantedJoint}
use Rattle.carton_tree.specs.Rules.{IsLoop, IsApart, IsDeep, KeepsPanels, KeepsSides, KeepsAxes, KeepsOpen}
use Rattle.carton_tree.specs.Trees.{Tree}
use Rattle.carton_tree.proofs.RefusedFaces.{same_panel, none_refused, one_first_refused}

-- two sides are one, or one comes before the other
pub sooner_cases : (a b c d : ℕ) → ((a ≡ c) × (b ≡ d)) ⊎ (IsSooner a b c d ⊎ IsSooner c d a b)
sooner_cases a b c d = elim (cases_lt a c) [
  | inl lt ↦ inr (inl (inl lt))
  | inr le ↦ elim (cases_lt c a) [
    | inl gt ↦ inr (inr (inl gt))
    | inr ge ↦ let same : a ≡ c = omega (arith, le, ge) in elim (cases_lt b d) [
      | inl less ↦ inr (inl (inr (same, less)))
      | inr ge_b ↦ elim (cases_lt d b) [
        | inl more ↦ inr (inr (inr (sym same, more)))
        | inr ge_d ↦ inl (same, omega (arith, ge_b, ge_d))
      ]
    ]
  ]
]

-- one number is the least
pub least_once : (P : ℕ → Type 0) (a b : ℕ) → IsLeast P a → IsLeast P b → a ≡ b
least_once P a b h k = elim (cases_lt a b) [
  | inl lt ↦ absurd (k.1 a lt h.0)
  | inr le ↦ elim (cases_lt b a) [ inl gt ↦ absurd (h.1 b gt k.0) | inr ge ↦ omega (arith, le, ge) ]
]

-- it holds of one fault at most; no fault is one of them
abbrev IsOne : (Option TreeError → Type 0) → Type 0
IsOne F = (e f : Option TreeError) → F e → F f → e ≡ f

-- a rule fails with this fault, or it is kept and the fault is a later one
data First (K : Type 0) (F L : Option TreeError → Type 0) (e : Option TreeError) : Type 0 where
  fails : F e → First K F L e
  later : K → L e → First K F L e

first_one : (K : Type 0) (F L : Option TreeError → Type 0) → IsOne F → ((e : Option TreeError) → F e → K → ⊥)
    → IsOne L → (e f : Option TreeError) → First K F L e → First K F L f → e ≡ f
first_one K F L one kept rest e f (fails h) (fails k) = one e f h k
first_one K F L one kept rest e f (fails h) (later keeps k) = absurd (kept e h keeps)
first_one K F L one kept rest e f (later keeps h) (fails k) = absurd (kept f k keeps)
first_one K F L one kept rest e f (later keeps h) (later keeps' k) = rest e f h k

-- the faults of each rule
abbrev PanelFault : ℕ → RawDieline → Option TreeError → Type 0
PanelFault m d e = (p : PanelError) × (e ≡ Some (Panel p)) × IsFirstRefused m d p

abbrev SideFault : RawDieline → Option TreeError → Type 0
SideFault d e =
    (f : PanelId) × (i : ℕ) × (e ≡ Some (SideNoEdge f i)) × IsBare d f.0 i
    × ((g j : ℕ) → IsSooner g j f.0 i → ¬ (IsBare d g j))

abbrev LeastFault : (ℕ → TreeError) → (ℕ → Type 0) → Option TreeError → Type 0
LeastFault make P e = (k : ℕ) × (e ≡ Some (make k)) × IsLeast P k

abbrev RootFault : RawDieline → ℕ → Option TreeError → Type 0
RootFault d root e = (e ≡ Some (NoRoot root)) × (length d.faces ≤ root)

abbrev IsSound : Option TreeError → Type 0
IsSound e = e ≡ None

-- the faults of all rules, in their order
abbrev HungFault : RawDieline → ℕ → Option TreeError → Type 0
HungFault d root =
    First (KeepsOpen d) (LeastFault (λ k. Loop (record { 0 = k })) (IsLoop d)) (
    First (root < length d.faces) (RootFault d root) (
    First (Never (IsApart d root)) (LeastFault (λ k. Apart (record { 0 = k })) (IsApart d root)) (
    First (Never (IsDeep d root)) (LeastFault (λ k. TooDeep (record { 0 = k })) (IsDeep d root)) IsSound)))

abbrev TreeFault : ℕ → RawDieline → ℕ → Option TreeError → Type 0
TreeFault m d root =
    First (KeepsPanels m d) (PanelFault m d) (
    First (KeepsSides d) (SideFault d) (
    First (Never (IsThreefold d)) (LeastFault (λ k. ThreeFaces (record { 0 = k })) (IsThreefold d)) (
    First (Never (IsOneWay d)) (LeastFault (λ k. SameSide (record { 0 = k })) (IsOneWay d)) (
    First (Never (IsSlantedJoint d)) (LeastFault (λ k. Slanted (record { 0 = k })) (IsSlantedJoint d))
    (HungFault d root)))))

-- each rule has one fault at most, and none where it is kept
one_panel : (m : ℕ) (d : RawDieline) → IsOne (PanelFault m d)
one_panel m d e f h k =
    h.1 ∙ ap (λ (p : PanelError). Some (Panel p)) (one_first_refused m d h.0 k.0 h.2 k.2) ∙ sym k.1

panels_kept : (m : ℕ) (d : RawDieline) (e : Option TreeError) → PanelFault m d e → KeepsPanels m d → ⊥
panels_kept m d e h all = none_refused m d h.0 all h.2

one_side : (d : RawDieline) → IsOne (SideFault d)
one_side d e f h k = elim (sooner_cases h.0.0 h.1 k.0.0 k.1) [
  | inl same ↦ h.2 ∙ (λ i. Some (SideNoEdge (same_panel h.0 k.0 same.0 i) (same.1 i))) ∙ sym k.2
  | inr other ↦
      elim other [
        | inl before ↦ absurd (k.4 h.0.0 h.1 before h.3)
        | inr behind ↦ absurd (h.4 k.0.0 k.1 behind k.3)
      ]
]

sides_kept : (d : RawDieline) (e : Option TreeError) → SideFault d e → KeepsSides d → ⊥
sides_kept d e h none = none h.0.0 h.1 h.3

one_least : (make : ℕ → TreeError) (P : ℕ → Type 0) → IsOne (LeastFault make P)
one_least make P e f h k = h.1 ∙ ap (λ n. Some (make n)) (least_once P h.0 k.0 h.2 k.2) ∙ sym k.1

none_least : (make : ℕ → TreeError) (P : ℕ → Type 0) (e : Option TreeError) → LeastFault make P e → Never P
    → ⊥
none_least make P e h none = none h.0 h.2.0

one_root : (d : RawDieline) (root : ℕ) → IsOne (RootFault d root)
one_root d root e f h k = h.0 ∙ sym k.0

root_kept : (d : RawDieline) (root : ℕ) (e : Option TreeError) → RootFault d root e → root < length d.faces
    → ⊥
root_kept d root e h lt = omega (arith, h.1, lt)

first_least : (make : ℕ → TreeError) (P : ℕ → Type 0) (L : Option TreeError → Type 0) → IsOne L
    → IsOne (First (Never P) (LeastFault make P) L)
first_least make P L rest =
    first_one (Never P) (LeastFault make P) L (one_least make P) (none_least make P) rest

one_hung : (d : RawDieline) (root : ℕ) → IsOne (HungFault d root)
one_hung d root =
    first_least (λ k. Loop (record { 0 = k })) (IsLoop d) _ (
    first_one (root < length d.faces) (RootFault d root) _ (one_root d root) (root_kept d root) (
    first_least (λ k. Apart (record { 0 = k })) (IsApart d root) _ (
    first_least (λ k. TooDeep (record { 0 = k })) (IsDeep d root) IsSound (λ e f h k. h ∙ sym k))))

-- all rules together have one fault at most
one_fault : (m : ℕ) (d : RawDieline) (root : ℕ) → IsOne (TreeFault m d root)
one_fault m d root =
    first_one (KeepsPanels m d) (PanelFault m d) _ (one_panel m d) (panels_kept m d) (
    first_one (KeepsSides d) (SideFault d) _ (one_side d) (sides_kept d) (
    first_least (λ k. ThreeFaces (record { 0 = k })) (IsThreefold d) _ (
    first_least (λ k. SameSide (record { 0 = k })) (IsOneWay d) _ (
    first_least (λ k. Slanted (record { 0 = k })) (IsSlantedJoint d) (HungFault d root) (one_hung d root)))))

-- what is answered is that fault
panels_fault : (m : ℕ) (d : RawDieline) (root : ℕ) (e : TreeError) → e ≢ Memory → IsPanelsAnswer m d e
    → TreeFault m d root (Some e)
panels_fault m d root (Panel p) wanted h = fails (p, refl, h)
panels_fault m d root Memory wanted h = absurd (wanted refl)
panels_fault m d root e wanted h = absurd h

edges_fault : (m : ℕ) (d : RawDieline) (root : ℕ) (e : TreeError) → e ≢ Memory → KeepsPanels m d
    → IsEdgesAnswer d e → TreeFault m d root (Some e)
edges_fault m d root (SideNoEdge f i) wanted panels h = later panels (fails (f, i, refl, h.0, h.1))
edges_fault m d root (ThreeFaces e) wanted panels h = later panels (later h.0 (fails (e.0, refl, h.1)))
edges_fault m d root (SameSide e) wanted panels h =
    later panels (later h.0.0 (later h.0.1 (fails (e.0, refl, h.1))))
edges_fault m d root (Slanted e) wanted panels h =
    later panels (later h.0.0.0 (later h.0.0.1 (later h.0.1 (fails (e.0, refl, h.1)))))
edges_fault m d root Memory wanted panels h = absurd (wanted refl)
edges_fault m d root e wanted panels h = absurd h

-- a fault past the rules of panels and edges
hangs : (m : ℕ) (d : RawDieline) (root : ℕ) (e : Option TreeError) → KeepsPanels m d → KeepsAxes d
    → HungFault d root e → TreeFault m d root e
hangs m d root e panels axes h =
    later panels (later axes.0.0.0 (later axes.0.0.1 (later axes.0.1 (later axes.1 h))))

hung_fault : (d : RawDieline) (root : ℕ) (e : TreeError) → IsHungAnswer d root e → HungFault d root (Some e)
hung_fault d root (Loop e) h = fails (e.0, refl, h)
hung_fault d root (NoRoot r) h = later h.0 (fails (ap (λ n. Some (NoRoot n)) h.1, h.2))
hung_fault d root (Apart p) h = later h.0.0 (later h.0.1 (fails (p.0, refl, h.1)))
hung_fault d root (TooDeep p) h = later h.0.0.0 (later h.0.0.1 (later h.0.1 (fails (p.0, refl, h.1))))
hung_fault d root e h = absurd h

error_fault : (m : ℕ) (d : RawDieline) (root : ℕ) (e : TreeError) → e ≢ Memory → IsTreeAnswer m d root (Err e)
    → TreeFault m d root (Some e)
error_fault m d root e wanted h = elim h [
  | inl panels ↦ panels_fault m d root e wanted panels
  | inr rest ↦ elim rest [
    | inl edges ↦ edges_fault m d root e wanted edges.0 edges.1
    | inr hung ↦ hangs m d root (Some e) hung.0 hung.1 (hung_fault d root e hung.2)
  ]
]

no_fault : (m : ℕ) (d : RawDieline) (root : ℕ) (t : Tree) → IsTreeAnswer m d root (Ok t)
    → TreeFault m d root None
no_fault m d root t h =
    hangs m d root None h.0 h.1 (later h.2.0.0.0 (later h.2.0.0.1 (later h.2.0.1 (later h.2.1 refl))))

-- a dieline is refused by one rule
pub one_refusal : (m : ℕ) (d : RawDieline) (root : ℕ) (e f : TreeError) → IsTreeAnswer m d root (Err e)
    → e ≢ Memory → IsTreeAnswer m d root (Err f) → f ≢ Memory → e ≡ f
one_refusal m d root e f h u k v =
    same e f (one_fault m d root (Some e) (Some f) (error_fault m d root e u h) (error_fault m d root f v k))
  where
    same : (x y : TreeError) → Some x ≡ Some y → x ≡ y
    same x y is = cc

-- and then it has no tree
pub no_tree : (m : ℕ) (d : RawDieline) (root : ℕ) (e : TreeError) (t : Tree) → IsTreeAnswer m d root (Err e)
    → e ≢ Memory → IsTreeAnswer m d root (Ok t) → ⊥
no_tree m d root e t h u k =
    differ e (one_fault m d root (Some e) None (error_fault m d root e u h) (no_fault m d root t k))
  where
    differ : (x : TreeError) → Some x ≡ None → ⊥
    differ x is = cc
