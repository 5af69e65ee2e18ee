-- Chosen candidates and the bodies of a fixture are the same boxes.
use Rattle.std.proofs.Common.{◌≡◌, ◌≢◌, ℕ, ◌<◌, Bool, true, false, ltb, List, length, get_or, slice_get}
use Rattle.std.proofs.Common.{slice_set, option_map, Some, All, AllPairs, Any, refl, sym, ap, ◌∙◌, arith}
use Rattle.std.proofs.lemmas.Bool.{ltb-true, ltb-false}
use Rattle.std.proofs.lemmas.List.{length-map}
use Rattle.std.proofs.lemmas.Option.{slice_get_within, slice_get-get_or, slice_get-map}
use Rattle.carton_base.specs.declared.bodies.Cuboid.{Cuboid}
use Rattle.carton_fixture_text.specs.declared.fixture.FixtureBody.{FixtureBody}
use Rattle.carton_guide.specs.Holding.{IsChosen}
use Rattle.carton_fixture.specs.Choices.{IsCandidate, boxes, each_of, each_but}
use Rattle.carton_fixture.specs.Steps.{AreFewer, AreNamed, AreFirst}
use Rattle.carton_fixture.proofs.Among.{AreAmong}
use Rattle.carton_fixture.proofs.Writes.{get_other, left}

-- the bodies are the chosen candidates
pub record AreChosen (candidates : List Cuboid) (chosen : List Bool) (bodies : List FixtureBody) : Type 0
  where
    pub each : All (λ b. IsChosen candidates chosen b.id b.shape) bodies
    pub rising : AllPairs (λ a b. a.id < b.id) bodies
    pub every : (k : ℕ) → slice_get chosen k ≡ Some true → Any (λ b. b.id ≡ k) bodies

pub of_first : (candidates : List Cuboid) (chosen : List Bool) (bodies : List FixtureBody)
    → length chosen ≡ length candidates → AreFirst candidates chosen (length candidates) bodies
    → AreChosen candidates chosen bodies
of_first candidates chosen bodies same h = record {
  each = h.each;
  rising = h.rising;
  every = λ k is. let w = slice_get_within chosen k true is in h.every k (omega (arith, w, same)) is;
}

pub of_named : (candidates : List Cuboid) (chosen : List Bool) (bodies : List FixtureBody)
    → All (IsCandidate candidates) bodies → AllPairs (λ a b. a.id < b.id) bodies → AreNamed chosen bodies
    → AreChosen candidates chosen bodies
of_named candidates chosen bodies are rising h = record {
  each = λ k d lt. record { at = are k d lt; marked = h.each k d lt };
  rising = rising;
  every = h.every;
}

pub among_fewer : (candidates : List Cuboid) (fewer more : List Bool) → AreFewer fewer more
    → AreAmong candidates fewer candidates more
among_fewer candidates fewer more h = λ k b is. (k, record { at = is.at; marked = h k is.marked })

-- the box of the body in a place
box_at : (bodies : List FixtureBody) (j : ℕ) (d : FixtureBody) → j < length bodies
    → slice_get (boxes bodies) j ≡ Some (get_or bodies j d).shape
box_at bodies j d lt = slice_get-map (λ (b : FixtureBody). b.shape) bodies j
    ∙ ap (option_map (λ (b : FixtureBody). b.shape)) (slice_get-get_or bodies j d lt)

all_at : (bodies : List FixtureBody) (j : ℕ) (d : FixtureBody) → j < length bodies
    → slice_get (each_of bodies) j ≡ Some true
all_at bodies j d lt = slice_get-map (λ (b : FixtureBody). true) bodies j
    ∙ ap (option_map (λ (b : FixtureBody). true)) (slice_get-get_or bodies j d lt)

-- each chosen candidate is one of the bodies
pub among_bodies : (candidates : List Cuboid) (chosen : List Bool) (bodies : List FixtureBody)
    → AreChosen candidates chosen bodies → AreAmong candidates chosen (boxes bodies) (each_of bodies)
among_bodies candidates chosen bodies h = λ k b is.
    let x = h.every k is.marked in
    let there = h.each x.0 x.1 x.2 in
    let body = get_or bodies x.0 x.1 in
    let id : body.id ≡ k = ap (λ (c : FixtureBody). c.id) x.3 ∙ x.4 in
    let same : Some body.shape ≡ Some b = sym there.at ∙ ap (slice_get candidates) id ∙ is.at in
    (x.0, record { at = box_at bodies x.0 x.1 x.2 ∙ same; marked = all_at bodies x.0 x.1 x.2 })

-- the body of a box
record IsAt (bodies : List FixtureBody) (j : ℕ) (b : Cuboid) : Type 0 where
  within : j < length bodies
  is : (d : FixtureBody) → (get_or bodies j d).shape ≡ b

body_at : (bodies : List FixtureBody) (picked : List Bool) (j : ℕ) (b : Cuboid)
    → IsChosen (boxes bodies) picked j b → IsAt bodies j b
body_at bodies picked j b is =
    let w = slice_get_within (boxes bodies) j b is.at in
    let lt : j < length bodies = omega (arith, w, length-map bodies (λ (c : FixtureBody). c.shape)) in
    record {
      within = lt;
      is = λ d. let same : Some (get_or bodies j d).shape
          ≡ Some b = sym (box_at bodies j d lt) ∙ is.at in cc;
    }

-- and each of the bodies is a chosen candidate
pub among_candidates : (candidates : List Cuboid) (chosen : List Bool) (bodies : List FixtureBody)
    → AreChosen candidates chosen bodies → AreAmong (boxes bodies) (each_of bodies) candidates chosen
among_candidates candidates chosen bodies h = λ j b is.
    let at = body_at bodies (each_of bodies) j b is in
    let d = default b in
    let there = h.each j d at.within in (
      (get_or bodies j d).id,
      record {
        at = there.at ∙ ap (λ (c : Cuboid). Some c) (at.is d);
        marked = there.marked;
      },
    )
  where
    default : Cuboid → FixtureBody
    default b = record { id = 0; shape = b }

-- bodies in different places have different numbers
apart : (bodies : List FixtureBody) (i j : ℕ) (d : FixtureBody) → AllPairs (λ a b. a.id < b.id) bodies
    → i < length bodies → j < length bodies → i ≢ j → (get_or bodies i d).id ≢ (get_or bodies j d).id
apart bodies i j d rising li lj n e = by_order (ltb i j) refl
  where
    by_order : (b : Bool) → ltb i j ≡ b → ⊥
    by_order true t = let lt = rising i j d (ltb-true i j t) lj in omega (arith, lt, e)
    by_order false t =
        let le = ltb-false i j t in
        let less : j < i = grind (arith, n) in
        let lt = rising j i d less li in
        omega (arith, lt, e)

-- without one of the bodies, each is a candidate that is chosen without it
pub among_others : (candidates : List Cuboid) (chosen : List Bool) (bodies : List FixtureBody) (k : ℕ)
    (d : FixtureBody) → k < length bodies → AreChosen candidates chosen bodies
    → AreAmong (boxes bodies) (each_but k bodies) candidates (slice_set chosen (get_or bodies k d).id false)
among_others candidates chosen bodies k d lt h = λ j b is.
    let other = left (each_of bodies) k j is.marked in
    let at = body_at bodies (each_but k bodies) j b is in
    let there = h.each j d at.within in
    let differ = apart bodies j k d h.rising at.within lt other.0 in (
      (get_or bodies j d).id,
      record {
        at = there.at ∙ ap (λ (c : Cuboid). Some c) (at.is d);
        marked = get_other chosen (get_or bodies k d).id false (get_or bodies j d).id differ ∙ there.marked;
      },
    )
