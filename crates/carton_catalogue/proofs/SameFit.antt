-- What refuses a catalogue for one of two same cartons and a plan refuses it for the other and every plan of
-- the same data.
use Rattle.std.proofs.Common.{◌≡◌, ℕ, suc, zero, ◌<◌, List, [], ◌∷◌, length, map, Option, Some, None, IfSome}
use Rattle.std.proofs.Common.{IsSomeAnd, slice_get, get_or, refl, sym, ◌∙◌, ap, subst, arith, pos}
use Rattle.std.proofs.lemmas.List.{length-map}
use Rattle.std.proofs.lemmas.Option.{slice_get-get_or, slice_get_within, get_or_from_slice_get}
use Rattle.carton_base.specs.declared.bodies.Guide.{Guide}
use Rattle.carton_base.specs.declared.dieline.Point.{Point}
use Rattle.carton_base.specs.declared.limits.TheConstants.{MOST_JOINTS}
use Rattle.carton_base.specs.declared.motion.State.{State}
use Rattle.carton_catalogue.specs.Fits.{IsGuided, HasWindow, HasRoomFor, KeepsBand, IsOnShape, IsOnPanel}
use Rattle.carton_catalogue.specs.Fits.{IsOutside, FitsGuide, IsMisfit, IsFirstMisfit, IsRefusedBy, IsRefusal}
use Rattle.carton_catalogue.specs.declared.catalogue.Catalogue.{Catalogue}
use Rattle.carton_catalogue.specs.declared.fit_error.FitError.{FitError}
use Rattle.carton_catalogue.specs.declared.fit_error.FitError.TheVariants.{OtherCreases, NotAJoint, BadWindow}
use Rattle.carton_catalogue.specs.declared.fit_error.FitError.TheVariants.{BandTooWide, ProbeOutside}
use Rattle.carton_catalogue.specs.declared.fit_error.Misfit.{Misfit}
use Rattle.carton_catalogue.specs.declared.fit_error.Misfit.TheVariants.{Joint as NoJoint, Window, Band}
use Rattle.carton_catalogue.specs.declared.fit_error.Misfit.TheVariants.{Probe}
use Rattle.carton_model.specs.HalfTurns.{stop_fold}
use Rattle.carton_model.specs.Moves.{stop_of}
use Rattle.carton_panels.specs.Shapes.{Shape}
use Rattle.carton_panels.specs.Shrinking.{InShrunk}
use Rattle.carton_place.specs.States.{fold_in}
use Rattle.carton_text.proofs.PlanStops.{stop_of_all}
use Rattle.carton_text.specs.PlainPlans.{PlainState, plain_state, PlainPlan, plain}
use Rattle.carton_text.specs.Tasks.{stop_at}
use Rattle.carton_text.specs.declared.plan.Plan.{Plan}
use Rattle.carton_text.specs.declared.task.Task.{Task}
use Rattle.carton_tree.specs.Cartons.{IsCarton}
use Rattle.carton_tree.specs.Rules.{IsLeast}
use Rattle.carton_tree.specs.Trees.{Tree, joint_of, Hangs}
use Rattle.carton_tree.specs.Same.{AreSame}
use Rattle.carton_tree.proofs.Flaps.{place_in}
use Rattle.carton_tree.proofs.OneCarton.{same_back}

-- states of one data have the same folds
same_fold : (s r : State) (k : ℕ) → plain_state s ≡ plain_state r → k < MOST_JOINTS
    → fold_in s k ≡ fold_in r k
same_fold s r k e lt =
    let stop : stop_of s k ≡ stop_of r k =
    sym (stop_of_all s.stops k lt) ∙ ap (λ (x : PlainState). stop_at x.stops k) e
    ∙ stop_of_all r.stops k lt in
    λ i. stop_fold (stop i) ((e i).grid)

room_at : (ss rs : List State) (i k band : ℕ) → map plain_state ss ≡ map plain_state rs → k < MOST_JOINTS
    → IfSome (slice_get ss i) (λ s. HasRoomFor band (fold_in s k))
    → IfSome (slice_get rs i) (λ s. HasRoomFor band (fold_in s k))
room_at [] [] i k band e lt h = tt
room_at [] (r ∷ rs) i k band e lt h = absurd (cc)
room_at (s ∷ ss) [] i k band e lt h = absurd (cc)
room_at (s ∷ ss) (r ∷ rs) zero k band e lt h =
    let first : plain_state s ≡ plain_state r = cc in
    subst (HasRoomFor band) (same_fold s r k first lt) h
room_at (s ∷ ss) (r ∷ rs) (suc i) k band e lt h =
    let rest : map plain_state ss ≡ map plain_state rs = cc in
    room_at ss rs i k band rest lt h

band_too : (ss rs : List State) (g : Guide) (k : ℕ) → map plain_state ss ≡ map plain_state rs
    → k < MOST_JOINTS → KeepsBand ss g k → KeepsBand rs g k
band_too ss rs g k e lt h = λ i from upto. room_at ss rs i k g.band e lt (h i from upto)

window_too : (ss rs : List State) (g : Guide) → map plain_state ss ≡ map plain_state rs → HasWindow ss g
    → HasWindow rs g
window_too ss rs g e h =
    let count : length ss ≡ length rs =
    sym (length-map ss plain_state) ∙ ap (length {A = PlainState}) e ∙ length-map rs plain_state in
    record { ordered = h.ordered; moves = omega (arith, h.moves, count) }

-- a place on a panel of the one carton lies on that panel of the other
on_too : (t u : Tree) (p : ℕ) (x : Point) → AreSame t u → IsOnPanel t p x → IsOnPanel u p x
on_too t u p x same h = by_shape (slice_get t.panels p) refl h
  where
    by_shape : (o : Option Shape) → slice_get t.panels p ≡ o → IsSomeAnd o (λ r. IsOnShape r x)
        → IsOnPanel u p x
    by_shape None is on = absurd on
    by_shape (Some s) is on =
        let within = slice_get_within t.panels p s is in
        let lt : p < length u.panels = omega (arith, within, same.count) in
        let one = same.panel p lt in
        let here = subst (λ r. IsOnShape r x) (sym (get_or_from_slice_get t.panels p s s is)) on in
        let placed =
        subst (λ ps. InShrunk (get_or t.panels p s).margin ps x.x x.y (pos 1)) (one.places s) here in
        let there =
        subst (λ m. InShrunk m (get_or u.panels p s).places x.x x.y (pos 1)) (one.margin s) placed in
        subst (λ o. IsSomeAnd o (λ r. IsOnShape r x)) (sym (slice_get-get_or u.panels p s lt)) there

guided_too : (t u : Tree) (e f k : ℕ) → AreSame t u → IsGuided t e f k → IsGuided u e f k
guided_too t u e f k same h = record {
  hangs = subst (λ js. IsLeast (Hangs js e) f) same.joints h.hangs;
  free = subst (λ js. IsSomeAnd (joint_of js f) (λ j. j.turn.place ≡ Some k)) same.joints h.free;
}

outside_too : (A B : Point → Type 0) (o : Option Point) → ((x : Point) → B x → A x)
    → IsSomeAnd o (λ x. ¬ (A x)) → IsSomeAnd o (λ x. ¬ (B x))
outside_too A B None back h = h
outside_too A B (Some x) back h = λ b. h (back x b)

least_too : (A B : Point → Type 0) (probes : List Point) (p : ℕ) → ((x : Point) → A x → B x)
    → ((x : Point) → B x → A x) → IsLeast (IsOutside A probes) p → IsLeast (IsOutside B probes) p
least_too A B probes p to back h = (
  outside_too A B (slice_get probes p) back h.0,
  λ j lt out. h.1 j lt (outside_too B A (slice_get probes j) to out),
)

fits_too : (t u : Tree) (ss rs : List State) (g : Guide) → AreSame t u → IsCarton t
    → map plain_state ss ≡ map plain_state rs → FitsGuide t ss g → FitsGuide u rs g
fits_too t u ss rs g same carton e f = (
  f.0,
  f.1,
  record {
    joint = guided_too t u g.edge.0 f.0 f.1 same f.2.joint;
    window = window_too ss rs g e f.2.window;
    band = band_too ss rs g f.1 e (place_in t f.0 f.1 carton f.2.joint.free) f.2.band;
    probes = λ k d lt. on_too t u f.0 _ same (f.2.probes k d lt);
  },
)

misfit_too : (t u : Tree) (ss rs : List State) (g : Guide) (m : Misfit) → AreSame t u → IsCarton t
    → map plain_state ss ≡ map plain_state rs → IsMisfit t ss g m → IsMisfit u rs g m
misfit_too t u ss rs g NoJoint same carton e h =
    λ f k guided. h f k (guided_too u t g.edge.0 f k (same_back t u same) guided)
misfit_too t u ss rs g Window same carton e h =
    (h.0, h.1, guided_too t u g.edge.0 h.0 h.1 same h.2, λ w. h.3 (window_too rs ss g (sym e) w))
misfit_too t u ss rs g Band same carton e h =
    let lt = place_in t h.0 h.1 carton h.2.free in (
      h.0,
      h.1,
      guided_too t u g.edge.0 h.0 h.1 same h.2,
      window_too ss rs g e h.3,
      λ b. h.4 (band_too rs ss g h.1 (sym e) lt b),
    )
misfit_too t u ss rs g (Probe p) same carton e h = (
  h.0,
  h.1,
  guided_too t u g.edge.0 h.0 h.1 same h.2,
  window_too ss rs g e h.3,
  band_too ss rs g h.1 e (place_in t h.0 h.1 carton h.2.free) h.4,
  least_too (IsOnPanel t h.0) (IsOnPanel u h.0) g.probes p
      (λ x. on_too t u h.0 x same) (λ x. on_too u t h.0 x (same_back t u same)) h.5,
)

misfit_at : (t u : Tree) (ss rs : List State) (m : Misfit) (o : Option Guide) → AreSame t u → IsCarton t
    → map plain_state ss ≡ map plain_state rs → IsSomeAnd o (λ g. IsMisfit t ss g m)
    → IsSomeAnd o (λ g. IsMisfit u rs g m)
misfit_at t u ss rs m None same carton e h = h
misfit_at t u ss rs m (Some g) same carton e h = misfit_too t u ss rs g m same carton e h

fits_at : (t u : Tree) (ss rs : List State) (o : Option Guide) → AreSame t u → IsCarton t
    → map plain_state ss ≡ map plain_state rs → IfSome o (FitsGuide t ss) → IfSome o (FitsGuide u rs)
fits_at t u ss rs None same carton e h = h
fits_at t u ss rs (Some g) same carton e h = fits_too t u ss rs g same carton e h

first_too : (t u : Tree) (ss rs : List State) (guides : List Guide) (n : ℕ) (m : Misfit) → AreSame t u
    → IsCarton t → map plain_state ss ≡ map plain_state rs → IsFirstMisfit t ss guides n m
    → IsFirstMisfit u rs guides n m
first_too t u ss rs guides n m same carton e h = record {
  misfit = misfit_at t u ss rs m (slice_get guides n) same carton e h.misfit;
  before = λ i lt. fits_at t u ss rs (slice_get guides i) same carton e (h.before i lt);
}

refused_by : (t u : Tree) (a b : Task) (p q : Plan) (c : Catalogue) (n : ℕ) (m : Misfit) → AreSame t u
    → IsCarton t → a.creases ≡ b.creases → plain p ≡ plain q → IsRefusedBy t a p c n m
    → IsRefusedBy u b q c n m
refused_by t u a b p q c n m same carton tasks plans h = (
  sym (ap (λ (x : PlainPlan). x.creases) plans) ∙ h.0 ∙ tasks,
  first_too t u p.states q.states c.guides n m same carton (ap (λ (x : PlainPlan). x.states) plans) h.1,
)

-- what refuses a catalogue for the one carton, task and plan refuses it for the other
pub refusal_too : (t u : Tree) (a b : Task) (p q : Plan) (c : Catalogue) (e : FitError) → AreSame t u
    → IsCarton t → a.creases ≡ b.creases → plain p ≡ plain q → IsRefusal t a p c e → IsRefusal u b q c e
refusal_too t u a b p q c OtherCreases same carton tasks plans h =
    λ has. h (ap (λ (x : PlainPlan). x.creases) plans ∙ has ∙ sym tasks)
refusal_too t u a b p q c (NotAJoint n) same carton tasks plans h =
    refused_by t u a b p q c n NoJoint same carton tasks plans h
refusal_too t u a b p q c (BadWindow n) same carton tasks plans h =
    refused_by t u a b p q c n Window same carton tasks plans h
refusal_too t u a b p q c (BandTooWide n) same carton tasks plans h =
    refused_by t u a b p q c n Band same carton tasks plans h
refusal_too t u a b p q c (ProbeOutside n x) same carton tasks plans h =
    refused_by t u a b p q c n (Probe x) same carton tasks plans h
