-- A text that is read as a fixture is the fixture's spelling, and the fixture keeps the rules.
use Rattle.std.specs.Prelude.{AllPairs}
use Rattle.std.proofs.Common.{◌≡◌, ℕ, ◌<◌, ℤ, List, [], ◌∷◌, ◌++◌, Result, Ok, Err, IfOk, refl, sym, ap}
use Rattle.std.proofs.Common.{subst, ◌∙◌, append_assoc, bytes_eq, codes, arith}
use Rattle.std.specs.List.{flat_map}
use Rattle.std.proofs.lemmas.Grind.{flat_map-append}
use Rattle.std.proofs.lemmas.List.{append-nil}
use Rattle.std.proofs.lemmas.List.Elements.{All-nil, All-push}
use Rattle.std.proofs.lemmas.List.Quantifiers.{all_pairs_push}
use Rattle.std.proofs.lemmas.Slice.Eq.{bytes_eq-Decides}
use Rattle.carton_base.proofs.Steps.{both, same_ok, only_if}
use Rattle.carton_lines.specs.declared.fault.Fault.TheVariants.{BadLine}
use Rattle.carton_lines.specs.declared.fault.LineError.{LineError}
use Rattle.carton_lines.specs.Lines.{words_of}
use Rattle.carton_lines.specs.StrictLines.{numbers_after, spelled}
use Rattle.carton_lines.specs.Readings.{strictly_read}
use Rattle.carton_lines.specs.Spellings.{fed}
use Rattle.carton_lines.proofs.SpelledLines.{AreSmall, line_spelled}
use Rattle.carton_lines.proofs.Spellings.{strictly_kept}
use Rattle.carton_fixture_text.specs.declared.fixture.Fixture.{Fixture}
use Rattle.carton_fixture_text.specs.declared.fixture.FixtureBody.{FixtureBody}
use Rattle.carton_fixture_text.specs.declared.fixture_text.FixtureReading.{FixtureReading}
use Rattle.carton_fixture_text.specs.declared.fixture_text.FixtureReading.TheVariants.{Headed, Within}
use Rattle.carton_catalogue.specs.CatalogueRules.{IsStroke}
use Rattle.carton_fixture_text.specs.FixtureRules.{IsFixtureBody, IsFixture}
use Rattle.carton_fixture_text.specs.FixtureTexts.{way_of, stroke_told, body_of, with_body, begun}
use Rattle.carton_fixture_text.specs.FixtureTexts.{fixture_line, fixture_lines, fixture_told, fixture_of}
use Rattle.carton_fixture_text.specs.FixtureTexts.{body_line, spelling}
use Rattle.carton_fixture_text.proofs.FixtureEntries.{way_is, way_small, body_is, later_bodies, numbers_small}

-- a line tells one body more
record IsMore (f g : Fixture) (line : List ℕ) : Type 0 where
  body : FixtureBody
  stroke : g.stroke ≡ f.stroke
  all : g.bodies ≡ f.bodies ++ body ∷ []
  keeps : IsFixture g
  text : line ++ codes "\n" ≡ body_line body

one_more : (f g : Fixture) (line : List ℕ) → IsFixture f → with_body f line ≡ Ok g → IsMore f g line
unfolding with_body
one_more f g line keeps h =
    let zs = both (numbers_after (codes "body") (words_of line)) _ g h in
    let b = both (body_of f.bodies zs.0) _ g zs.2 in
    let is : record f { bodies = f.bodies ++ b.0 ∷ [] } ≡ g =
    same_ok (record f { bodies = f.bodies ++ b.0 ∷ [] }) g _ refl b.2 in
    let next = body_is f.bodies zs.0 b.0 b.1 in
    let later = later_bodies f.bodies b.0.id next.later in
    let small : AreSmall zs.0 = subst AreSmall (sym next.numbers) (numbers_small b.0 next.is) in
    record {
      body = b.0;
      stroke = ap (λ (x : Fixture). x.stroke) (sym is);
      all = ap (λ (x : Fixture). x.bodies) (sym is);
      keeps = subst IsFixture is (record {
        stroke = keeps.stroke;
        each = All-push IsFixtureBody f.bodies b.0 keeps.each next.is;
        rising = all_pairs_push (λ x y. x.id < y.id) f.bodies b.0 keeps.rising later;
      });
      text = ap (λ (bs : List ℕ). bs ++ codes "\n") (line_spelled (codes "body") line zs.0 zs.1 small)
          ∙ ap (λ (ys : List ℤ). spelled (codes "body") ys) next.numbers;
    }

stroke_line : (line : List ℕ) (stroke : List ℤ) → stroke_told line ≡ Ok stroke
    → IsStroke stroke × (line ++ codes "\n" ≡ spelled (codes "stroke") stroke)
unfolding stroke_told
stroke_line line stroke h =
    let zs = both (numbers_after (codes "stroke") (words_of line)) way_of stroke h in
    let is = way_is zs.0 stroke zs.2 in
    let small : AreSmall zs.0 = subst AreSmall (sym is.0) (way_small stroke is.1) in (
      is.1,
      ap (λ (bs : List ℕ). bs ++ codes "\n") (line_spelled (codes "stroke") line zs.0 zs.1 small)
          ∙ ap (λ (ys : List ℤ). spelled (codes "stroke") ys) is.0,
    )

no_pairs : AllPairs (λ (x y : FixtureBody). x.id < y.id) []
no_pairs = λ i j d less lt. absurd (omega arith)

-- what the lines up to a body have told, and their text
record IsSoFar (f : Fixture) (bytes : List ℕ) : Type 0 where
  keeps : IsFixture f
  text : bytes ≡ codes "carton fixture 1\n"
      ++ (spelled (codes "stroke") f.stroke ++ flat_map body_line f.bodies)

abbrev SoFar : FixtureReading → List ℕ → Type 0
SoFar Headed bytes = bytes ≡ codes "carton fixture 1\n"
SoFar (Within f) bytes = IsSoFar f bytes

first_told : (line : List ℕ) (r : FixtureReading) → begun line ≡ Ok r → SoFar r (fed line)
first_told line r h =
    let p = only_if (bytes_eq line (codes "carton fixture 1")) BadLine Headed r h in
    subst (λ x. SoFar x (fed line)) (sym p.1)
    (ap fed ((bytes_eq-Decides line (codes "carton fixture 1")).0 p.0))

stroke_next : (stroke : List ℤ) (line bytes : List ℕ) → bytes ≡ codes "carton fixture 1\n"
    → stroke_told line ≡ Ok stroke → IsSoFar (record { stroke = stroke; bodies = [] }) (bytes ++ fed line)
stroke_next stroke line bytes text h =
    let is = stroke_line line stroke h in
    record {
      keeps = record { stroke = is.0; each = All-nil IsFixtureBody; rising = no_pairs };
      text = (λ i. text i ++ is.1 i)
          ∙ ap (λ (bs : List ℕ). codes "carton fixture 1\n"
          ++ bs) (sym (append-nil (spelled (codes "stroke") stroke)));
    }

body_next : (f g : Fixture) (line bytes : List ℕ) → IsSoFar f bytes → IsMore f g line
    → IsSoFar g (bytes ++ fed line)
body_next f g line bytes k one =
    let first = codes "carton fixture 1\n" in
    let stroke = spelled (codes "stroke") f.stroke in
    let bodies = flat_map body_line f.bodies in
    record {
      keeps = one.keeps;
      text = (λ i. k.text i ++ one.text i)
          ∙ append_assoc first (stroke ++ bodies) (body_line one.body)
          ∙ ap (λ (bs : List ℕ). first ++ bs) (append_assoc stroke bodies (body_line one.body))
          ∙ ap (λ (bs : List ℕ). first ++ (stroke ++ (bodies ++ bs))) (sym (append-nil (body_line one.body)))
          ∙ ap (λ (bs : List ℕ). first ++ (stroke ++ bs))
          (sym (flat_map-append body_line f.bodies (one.body ∷ [])))
          ∙ (λ i. first
          ++ (spelled (codes "stroke") (sym one.stroke i) ++ flat_map body_line (sym one.all i)));
    }

later_told : (r s : FixtureReading) (n : ℕ) (line bytes : List ℕ) → SoFar r bytes
    → fixture_line r n line ≡ Ok s → SoFar s (bytes ++ fed line)
later_told Headed s n line bytes k h =
    let stroke = both (stroke_told line) _ s h in
    subst (λ x. SoFar x (bytes ++ fed line)) (same_ok (Within (record { stroke = stroke.0; bodies = [] })) s _
    refl stroke.2) (stroke_next stroke.0 line bytes k stroke.1)
later_told (Within f) s n line bytes k h =
    let g = both (with_body f line) _ s h in
    subst (λ x. SoFar x (bytes ++ fed line)) (same_ok (Within g.0) s _ refl g.2)
    (body_next f g.0 line bytes k (one_more f g.0 line k.keeps g.1))

-- a text that is read as a fixture
pub fixture_read : (bytes : List ℕ) (f : Fixture) → fixture_of bytes ≡ Ok f
    → IsFixture f × (bytes ≡ spelling f)
unfolding fixture_of
fixture_read bytes f h =
    let a = both (strictly_read fixture_lines bytes) fixture_told f h in
    by_reading a.0 a.1 a.2
  where
    by_reading : (r : FixtureReading) → strictly_read fixture_lines bytes ≡ Ok r → fixture_told r ≡ Ok f
        → IsFixture f × (bytes ≡ spelling f)
    by_reading Headed read told = cc
    by_reading (Within g) read told =
        let same : g ≡ f = same_ok g f _ refl told in
        let text = strictly_kept fixture_lines SoFar first_told later_told bytes (Within g) read in
        let first = codes "carton fixture 1\n" in
        let stroke = spelled (codes "stroke") g.stroke in
        let bodies = flat_map body_line g.bodies in
        let whole_text : bytes ≡ spelling g =
        text.text ∙ ap (λ (bs : List ℕ). bs ++ codes "end\n") text.told.text
        ∙ append_assoc first (stroke ++ bodies) (codes "end\n")
        ∙ ap (λ (bs : List ℕ). first ++ bs) (append_assoc stroke bodies (codes "end\n")) in
        subst (λ x. IsFixture x × (bytes ≡ spelling x)) same (text.told.keeps, whole_text)

-- what a reading gave keeps the rules
pub keeps_rules : (bytes : List ℕ) (r : FixtureReading) (out : Result Fixture LineError)
    → strictly_read fixture_lines bytes ≡ Ok r → out ≡ fixture_told r → IfOk out IsFixture
unfolding fixture_of
keeps_rules bytes r (Ok f) read told =
    let whole_text : fixture_of bytes ≡ Ok f = rw read (sym told) in (fixture_read bytes f whole_text).0
keeps_rules bytes r (Err e) read told = tt
