-- A catalogue has one answer: of two answers that are allowed, both say that it fits, or both are one
-- refusal.
use Rattle.std.proofs.Common.{◌≡◌, ◌⊎◌, inl, inr, ℕ, List, Option, Some, None, IfSome, IsSomeAnd, slice_get}
use Rattle.std.proofs.Common.{refl, sym, ap, ◌∙◌, subst, arith}
use Rattle.std.proofs.lemmas.Bool.{cases_lt}
use Rattle.carton_base.specs.declared.bodies.Guide.{Guide}
use Rattle.carton_base.specs.declared.motion.State.{State}
use Rattle.carton_text.specs.declared.plan.Plan.{Plan}
use Rattle.carton_text.specs.declared.task.Task.{Task}
use Rattle.carton_text.specs.TaskPlans.{HasCreases}
use Rattle.carton_tree.proofs.Flaps.{one_flap as one_place}
use Rattle.carton_tree.proofs.OneRefusal.{least_once}
use Rattle.carton_tree.specs.Rules.{IsLeast}
use Rattle.carton_tree.specs.Trees.{Tree}
use Rattle.carton_catalogue.specs.declared.catalogue.Catalogue.{Catalogue}
use Rattle.carton_catalogue.specs.declared.fit_error.FitError.{FitError}
use Rattle.carton_catalogue.specs.declared.fit_error.FitError.TheVariants.{OtherCreases, NotAJoint, BadWindow}
use Rattle.carton_catalogue.specs.declared.fit_error.FitError.TheVariants.{BandTooWide, ProbeOutside}
use Rattle.carton_catalogue.specs.declared.fit_error.Misfit.{Misfit}
use Rattle.carton_catalogue.specs.declared.fit_error.Misfit.TheVariants.{Joint as NoJoint, Window, Band}
use Rattle.carton_catalogue.specs.declared.fit_error.Misfit.TheVariants.{Probe}
use Rattle.carton_catalogue.specs.Fits.{IsGuided, KeepsBand, IsOnPanel, IsOutside, FitsGuide, IsMisfit}
use Rattle.carton_catalogue.specs.Fits.{Fits, IsFirstMisfit, IsRefusedBy, IsRefusal}
use Rattle.carton_catalogue.specs.FitSteps.{told_of}
use Rattle.carton_catalogue.proofs.Misfits.{not_outside, some_at}

pub one_flap : (t : Tree) (e f g k l : ℕ) → IsGuided t e f k → IsGuided t e g l → f ≡ g
one_flap t e f g k l h i = (one_place t.joints e f k g l h.hangs h.free i.hangs i.free).0

pub one_joint : (t : Tree) (e f g k l : ℕ) → IsGuided t e f k → IsGuided t e g l → k ≡ l
one_joint t e f g k l h i = (one_place t.joints e f k g l h.hangs h.free i.hangs i.free).1

-- a guide that fits has no misfit
fits_well : (t : Tree) (states : List State) (g : Guide) (m : Misfit) → FitsGuide t states g
    → IsMisfit t states g m → ⊥
fits_well t states g NoJoint f h = h f.0 f.1 f.2.joint
fits_well t states g Window f h = h.3 f.2.window
fits_well t states g Band f h =
    h.4 (subst (KeepsBand states g) (one_joint t g.edge.0 f.0 h.0 f.1 h.1 f.2.joint h.2) f.2.band)
fits_well t states g (Probe p) f h =
    let same = one_flap t g.edge.0 h.0 f.0 h.1 f.1 h.2 f.2.joint in
    let out = subst (λ flap. IsOutside (IsOnPanel t flap) g.probes p) same h.5.0 in
    not_outside (IsOnPanel t f.0) g.probes p (some_at (IsOnPanel t f.0) g.probes p f.2.probes) out

one_misfit : (t : Tree) (states : List State) (g : Guide) (m n : Misfit) → IsMisfit t states g m
    → IsMisfit t states g n → m ≡ n
one_misfit t states g NoJoint NoJoint h i = refl
one_misfit t states g NoJoint Window h i = absurd (h i.0 i.1 i.2)
one_misfit t states g NoJoint Band h i = absurd (h i.0 i.1 i.2)
one_misfit t states g NoJoint (Probe q) h i = absurd (h i.0 i.1 i.2)
one_misfit t states g Window NoJoint h i = absurd (i h.0 h.1 h.2)
one_misfit t states g Window Window h i = refl
one_misfit t states g Window Band h i = absurd (h.3 i.3)
one_misfit t states g Window (Probe q) h i = absurd (h.3 i.3)
one_misfit t states g Band NoJoint h i = absurd (i h.0 h.1 h.2)
one_misfit t states g Band Window h i = absurd (i.3 h.3)
one_misfit t states g Band Band h i = refl
one_misfit t states g Band (Probe q) h i =
    absurd (h.4 (subst (KeepsBand states g) (one_joint t g.edge.0 i.0 h.0 i.1 h.1 i.2 h.2) i.4))
one_misfit t states g (Probe p) NoJoint h i = absurd (i h.0 h.1 h.2)
one_misfit t states g (Probe p) Window h i = absurd (i.3 h.3)
one_misfit t states g (Probe p) Band h i =
    absurd (i.4 (subst (KeepsBand states g) (one_joint t g.edge.0 h.0 i.0 h.1 i.1 h.2 i.2) h.4))
one_misfit t states g (Probe p) (Probe q) h i =
    let same = one_flap t g.edge.0 h.0 i.0 h.1 i.1 h.2 i.2 in
    ap (λ (r : ℕ). Probe r)
    (least_once (IsOutside (IsOnPanel t i.0) g.probes) p q
    (subst (λ flap. IsLeast (IsOutside (IsOnPanel t flap) g.probes) p) same h.5) i.5)

-- the guide at a place doesn't both fit and not
fits_there : (t : Tree) (states : List State) (m : Misfit) (o : Option Guide) → IfSome o (FitsGuide t states)
    → IsSomeAnd o (λ g. IsMisfit t states g m) → ⊥
fits_there t states m None f h = h
fits_there t states m (Some g) f h = fits_well t states g m f h

misfit_there : (t : Tree) (states : List State) (m n : Misfit) (o : Option Guide)
    → IsSomeAnd o (λ g. IsMisfit t states g m) → IsSomeAnd o (λ g. IsMisfit t states g n) → m ≡ n
misfit_there t states m n None h i = absurd h
misfit_there t states m n (Some g) h i = one_misfit t states g m n h i

one_first : (t : Tree) (states : List State) (guides : List Guide) (a b : ℕ) (m n : Misfit)
    → IsFirstMisfit t states guides a m → IsFirstMisfit t states guides b n → told_of a m ≡ told_of b n
one_first t states guides a b m n h i = elim (cases_lt a b) [
  | inl lt ↦ absurd (fits_there t states m (slice_get guides a) (i.before a lt) h.misfit)
  | inr le ↦ elim (cases_lt b a) [
    | inl lt ↦ absurd (fits_there t states n (slice_get guides b) (h.before b lt) i.misfit)
    | inr back ↦
        let same : a ≡ b = omega (arith, le, back) in
        let here = subst (λ k. IsSomeAnd (slice_get guides k) (λ g. IsMisfit t states g m)) same h.misfit in
        ap (λ k. told_of k m) same
        ∙ ap (told_of b) (misfit_there t states m n (slice_get guides b) here i.misfit)
  ]
]

-- a refusal names other creases, or the first guide that doesn't fit
refused : (t : Tree) (task : Task) (plan : Plan) (c : Catalogue) (e : FitError) → IsRefusal t task plan c e
    → (¬ (HasCreases task plan) × (e ≡ OtherCreases))
    ⊎ ((n : ℕ) × (m : Misfit) × IsRefusedBy t task plan c n m × (e ≡ told_of n m))
refused t task plan c OtherCreases h = inl (h, refl)
refused t task plan c (NotAJoint n) h = inr (n, NoJoint, h, refl)
refused t task plan c (BadWindow n) h = inr (n, Window, h, refl)
refused t task plan c (BandTooWide n) h = inr (n, Band, h, refl)
refused t task plan c (ProbeOutside n p) h = inr (n, Probe p, h, refl)

pub one_refusal : (t : Tree) (task : Task) (plan : Plan) (c : Catalogue) (e f : FitError)
    → IsRefusal t task plan c e → IsRefusal t task plan c f → e ≡ f
one_refusal t task plan c e f h i = elim (refused t task plan c e h) [
  | inl x ↦ elim (refused t task plan c f i) [
    | inl y ↦ x.1 ∙ sym y.1
    | inr y ↦ absurd (x.0 y.2.0)
  ]
  | inr x ↦ elim (refused t task plan c f i) [
    | inl y ↦ absurd (y.0 x.2.0)
    | inr y ↦ x.3 ∙ one_first t plan.states c.guides x.0 y.0 x.1 y.1 x.2.1 y.2.1 ∙ sym y.3
  ]
]

-- a catalogue that fits isn't refused
pub not_refused : (t : Tree) (task : Task) (plan : Plan) (c : Catalogue) (e : FitError) → Fits t task plan c
    → IsRefusal t task plan c e → ⊥
not_refused t task plan c e fits h = elim (refused t task plan c e h) [
  | inl x ↦ x.0 fits.creases
  | inr x ↦
      fits_there t plan.states x.1 (slice_get c.guides x.0)
      (some_at (FitsGuide t plan.states) c.guides x.0 fits.guides) x.2.1.misfit
]
