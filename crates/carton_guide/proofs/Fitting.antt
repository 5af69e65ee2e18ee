-- What a plan of the carton and a fitting guide give for one move of the window.
use Rattle.std.proofs.Common.{◌≡◌, ◌∙◌, refl, ap, sym, subst, inl, inr, ℕ, zero, suc, ◌+◌, ◌<◌, ◌≤◌, List, []}
use Rattle.std.proofs.Common.{◌∷◌, length, get_or, slice_get, Bool, Option, None, Some, IfSome, IsSomeAnd}
use Rattle.std.proofs.Common.{ℤ, arith}
use Rattle.std.specs.Prelude.{All}
use Rattle.std.proofs.lemmas.Bool.{cases_lt}
use Rattle.std.proofs.lemmas.List.Elements.{All-weaker}
use Rattle.std.proofs.lemmas.Option.{slice_get-get_or, get_or_from_slice_get}
use Rattle.carton_base.specs.declared.dieline.Point.{Point}
use Rattle.carton_base.specs.declared.motion.State.{State}
use Rattle.carton_text.specs.PlanMoves.{IsMove}
use Rattle.carton_catalogue.specs.Fits.{IsGuided, HasRoomFor, KeepsBand, IsOnShape, IsOnPanel as LiesOnPanel}
use Rattle.carton_catalogue.specs.Fits.{FitsGuide}
use Rattle.carton_catalogue.proofs.Bands.{AreStops, ends_are_stops}
use Rattle.carton_model.specs.Moves.{IsStop, stop_of}
use Rattle.carton_panels.specs.Shapes.{Shape}
use Rattle.carton_place.specs.States.{fold_in}
use Rattle.carton_reach.specs.Spots.{no_shape}
use Rattle.carton_tree.specs.Trees.{Tree}
use Rattle.carton_base.specs.declared.bodies.Guide.{Guide}
use Rattle.carton_base.specs.declared.bodies.Cuboid.{Cuboid}
use Rattle.carton_guide.specs.declared.note.End.{End}
use Rattle.carton_guide.specs.declared.note.End.TheVariants.{Under, Over}
use Rattle.carton_guide.specs.Notes.{IsHeldThrough}
use Rattle.carton_guide.specs.Bands.{band_stops, shifted}
use Rattle.carton_guide.specs.Guides.{IsOnPanel, StaysInBand}
use Rattle.carton_guide.proofs.Flaps.{one_flap}

-- a state that was read
pub read_at : (states : List State) (i j : ℕ) (s : State) → j ≡ i → i < length states → s ≡ get_or states j s
    → slice_get states i ≡ Some s
read_at states i j s e lt is = slice_get-get_or states i s lt
    ∙ ap (λ x. Some x) (sym (is ∙ ap (λ k. get_or states k s) e))

-- the state at each place
pub element : (states : List State) (i : ℕ) → i < length states → (s : State) × (slice_get states i ≡ Some s)
element [] i l = absurd (omega (arith, l))
element (s ∷ states) zero l = (s, refl)
element (s ∷ states) (suc i) l = element states i (omega (arith, l))

-- room for a band in eighths is room for it in stops
pub band_at : (s : State) (k band : ℕ) (end : End) → AreStops s.grid band (stop_of s k)
    → IsStop s.grid (shifted end (band_stops s.grid band) (stop_of s k))
band_at s k band Under h = h.under
band_at s k band Over h = h.over

pub stays_in_band : (states : List State) (g : Guide) (k : ℕ) → KeepsBand states g k → StaysInBand states g k
stays_in_band states g k h i s from upto is =
    λ end. band_at s k g.band end
    (ends_are_stops s k g.band (subst (λ o. IfSome o (λ r. HasRoomFor g.band (fold_in r k))) is
    (h i from upto)))

-- a place on a panel lies in its shrunk shape
pub on_panel : (t : Tree) (p : ℕ) (place : Point) → LiesOnPanel t p place → IsOnPanel t p place
on_panel t p place h = by_shape (slice_get t.panels p) refl h
  where
    by_shape : (o : Option Shape) → slice_get t.panels p ≡ o → IsSomeAnd o (λ s. IsOnShape s place)
        → IsOnPanel t p place
    by_shape None e x = absurd x
    by_shape (Some s) e x = subst (λ (r : Shape). IsOnShape r place)
        (sym (get_or_from_slice_get t.panels p s no_shape e)) x

-- the probes lie in the flap, and the place keeps the band, of whichever flap is the edge's
pub on_flap : (t : Tree) (states : List State) (g : Guide) (flap place : ℕ) → FitsGuide t states g
    → IsGuided t g.edge.0 flap place → All (IsOnPanel t flap) g.probes
on_flap t states g flap place fit h =
    let same = (one_flap t g.edge.0 fit.0 fit.1 flap place fit.2.joint h).0 in
    All-weaker (LiesOnPanel t flap) (IsOnPanel t flap) (on_panel t flap) g.probes
    (subst (λ p. All (LiesOnPanel t p) g.probes) same fit.2.probes)

pub in_band : (t : Tree) (states : List State) (g : Guide) (flap place : ℕ) → FitsGuide t states g
    → IsGuided t g.edge.0 flap place → StaysInBand states g place
in_band t states g flap place fit h =
    subst (StaysInBand states g) (one_flap t g.edge.0 fit.0 fit.1 flap place fit.2.joint h).1
    (stays_in_band states g fit.1 fit.2.band)

-- the flap is held throughout the moves from the window's first one to before move k
abbrev pub HeldFrom : Tree → List State → Guide → List ℤ → List Cuboid → List Bool → ℕ → ℕ → ℕ → Type 0
HeldFrom t states g stroke bodies chosen flap place k = (i : ℕ) → g.first ≤ i → i < k
    → (s r : State) (end : End) → IsMove states i s r
    → IsHeldThrough t g stroke bodies chosen flap place end i s r

pub held_more : (t : Tree) (states : List State) (g : Guide) (stroke : List ℤ) (bodies : List Cuboid)
    (chosen : List Bool) (flap place k : ℕ) → HeldFrom t states g stroke bodies chosen flap place k
    → ((s r : State) (end : End) → IsMove states k s r
    → IsHeldThrough t g stroke bodies chosen flap place end k s r)
    → HeldFrom t states g stroke bodies chosen flap place (k + 1)
held_more t states g stroke bodies chosen flap place k below here i from lt = elim (cases_lt i k) [
  | inl l ↦ below i from l
  | inr ge ↦ let same : k ≡ i = omega (arith, lt, ge) in
      subst (λ j. (s r : State) (end : End) → IsMove states j s r
      → IsHeldThrough t g stroke bodies chosen flap place end j s r) same here
]
