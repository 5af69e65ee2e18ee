-- Guides that fit, and the first that doesn't.
use Rattle.std.proofs.Common.{◌≡◌, refl, ℕ, ◌+◌, ◌≤◌, ◌<◌, List, length, Option, Some, None, IfSome}
use Rattle.std.proofs.Common.{IsSomeAnd, slice_get, sym, subst, All, arith, ℤ, pos, neg_ℤ, ◌-ℤ◌, Bool, IsTrue}
use Rattle.std.proofs.Common.{◌↔◌, below_more, get_or}
use Rattle.std.proofs.lemmas.Int.{ints}
use Rattle.std.proofs.lemmas.Option.{slice_get-get_or, slice_get_within, get_or_from_slice_get}
use Rattle.carton_base.specs.declared.bodies.Guide.{Guide}
use Rattle.carton_base.specs.declared.dieline.Point.{Point}
use Rattle.carton_base.specs.declared.motion.State.{State}
use Rattle.carton_panels.specs.Shapes.{Shape}
use Rattle.carton_panels.specs.Shrinking.{InShrunk}
use Rattle.carton_tree.specs.Rules.{IsLeast}
use Rattle.carton_tree.specs.Trees.{Tree}
use Rattle.carton_catalogue.specs.declared.fit_error.Misfit.TheVariants.{Probe}
use Rattle.carton_catalogue.specs.declared.fitting.Flap.{Flap}
use Rattle.carton_catalogue.specs.Fits.{HasWindow, KeepsBand, IsOnShape, IsOutside, FitsGuide, IsMisfit}
use Rattle.carton_catalogue.specs.FitSteps.{IsFlap}

-- what holds at each place holds of all
pub all_from_places : {X : Type 0} (P : X → Type 0) (xs : List X) (n : ℕ) → length xs ≤ n
    → ((j : ℕ) → j < n → IfSome (slice_get xs j) P) → All P xs
all_from_places {X} P xs n end each k d lt = subst (λ (o : Option X). IfSome o P) (slice_get-get_or xs k d lt)
    (each k (omega (arith, lt, end)))

-- what is inside isn't outside
pub not_outside : (IsInside : Point → Type 0) (probes : List Point) (k : ℕ)
    → IfSome (slice_get probes k) IsInside → ¬ (IsOutside IsInside probes k)
not_outside IsInside probes k inside outside = by_place (slice_get probes k) inside outside
  where
    by_place : (o : Option Point) → IfSome o IsInside → IsSomeAnd o (λ place. ¬ (IsInside place)) → ⊥
    by_place None i h = h
    by_place (Some place) i h = h i

-- the guide fits, where all its probes lie in the shrunk flap
pub guide_fits : (t : Tree) (states : List State) (g : Guide) (f : Flap) (shape : Shape) → IsFlap t g.edge.0 f
    → HasWindow states g → KeepsBand states g f.place → Some shape ≡ slice_get t.panels f.panel.0
    → All (IsOnShape shape) g.probes → FitsGuide t states g
guide_fits t states g f shape is window band e on = (
  f.panel.0,
  f.place,
  record {
    joint = is.guided;
    window = window;
    band = band;
    probes = subst (λ (o : Option Shape). All (λ place. IsSomeAnd o (λ s. IsOnShape s place)) g.probes) e on;
  },
)

-- and where one of them doesn't, the first of these is the misfit
pub probe_outside : (t : Tree) (states : List State) (g : Guide) (f : Flap) (shape : Shape) (p : ℕ)
    → IsFlap t g.edge.0 f → HasWindow states g → KeepsBand states g f.place
    → Some shape ≡ slice_get t.panels f.panel.0
    → IsLeast (IsOutside (IsOnShape shape) g.probes) p → IsMisfit t states g (Probe p)
probe_outside t states g f shape p is window band e least = (
  f.panel.0,
  f.place,
  is.guided,
  window,
  band,
  subst (λ (o : Option Shape).
      IsLeast (IsOutside (λ place. IsSomeAnd o (λ s. IsOnShape s place)) g.probes) p) e least,
)

pub on_shape : (s : Shape) (place : Point) (x y : ℤ) (b : Bool) → x ≡ place.x → y ≡ place.y → IsTrue b
    ↔ InShrunk s.margin s.places x y (pos 1) → IsTrue b ↔ IsOnShape s place
on_shape s place x y b ex ey h =
    subst (λ z. IsTrue b ↔ InShrunk s.margin s.places z place.y (pos 1)) ex
    (subst (λ z. IsTrue b ↔ InShrunk s.margin s.places x z (pos 1)) ey h)

-- one place more holds what the first ones hold
pub one_more : {X : Type 0} (P : X → Type 0) (xs : List X) (k : ℕ) (d : X) → k < length xs → P (get_or xs k d)
    → ((j : ℕ) → j < k → IfSome (slice_get xs j) P) → (j : ℕ) → j < k + 1 → IfSome (slice_get xs j) P
one_more {X} P xs k d lt here before =
    below_more (λ j. IfSome (slice_get xs j) P) k before
    (subst (λ (o : Option X). IfSome o P) (sym (slice_get-get_or xs k d lt)) here)

-- the first probe that is outside
pub first_out : (IsInside : Point → Type 0) (probes : List Point) (k : ℕ) (d : Point) → k < length probes
    → ¬ (IsInside (get_or probes k d)) → ((j : ℕ) → j < k → IfSome (slice_get probes j) IsInside)
    → IsLeast (IsOutside IsInside probes) k
first_out IsInside probes k d lt out before = (
  subst (λ (o : Option Point). IsSomeAnd o (λ place. ¬ (IsInside place)))
      (sym (slice_get-get_or probes k d lt)) out,
  (λ j less. not_outside IsInside probes j (before j less)),
)

pub negated : (n : ℕ) → pos 0 -ℤ pos n ≡ neg_ℤ (pos n)
negated n = omega (arith, ints)

-- what holds of all holds at each place
pub some_at : {X : Type 0} (P : X → Type 0) (xs : List X) (k : ℕ) → All P xs → IfSome (slice_get xs k) P
some_at {X} P xs k all = by_place (slice_get xs k) refl
  where
    by_place : (o : Option X) → slice_get xs k ≡ o → IfSome o P
    by_place None e = tt
    by_place (Some x) e = subst P (get_or_from_slice_get xs k x x e) (all k x (slice_get_within xs k x e))
