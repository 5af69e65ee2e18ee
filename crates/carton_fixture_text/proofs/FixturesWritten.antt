-- The spelling of a fixture that keeps the rules is read as that fixture.
use Rattle.std.specs.Prelude.{All, AllPairs, ⊤}
use Rattle.std.proofs.Common.{◌≡◌, ℕ, ◌<◌, ℤ, List, [], ◌∷◌, ◌++◌, length, length-append, map, get_or, Ok}
use Rattle.std.proofs.Common.{refl, sym, ap, ◌∙◌, arith, append_assoc, codes}
use Rattle.std.specs.List.{AllByRecursion, flat_map, concat}
use Rattle.std.proofs.Math.Seq.{get_or-append_seam}
use Rattle.std.proofs.lemmas.List.{append-nil, get_or_append_left}
use Rattle.std.proofs.lemmas.List.Elements.{recursion_from_All}
use Rattle.carton_lines.specs.Lines.{next_number}
use Rattle.carton_lines.specs.StrictLines.{spaced}
use Rattle.carton_lines.specs.Spellings.{fed, take_all}
use Rattle.carton_lines.proofs.SpelledLines.{lacks, line_lacks, spelled_line}
use Rattle.carton_lines.proofs.Spellings.{IsInner, inner_lines, text_of_each, one_taken, spelled_read}
use Rattle.carton_fixture_text.specs.declared.fixture.Fixture.{Fixture}
use Rattle.carton_fixture_text.specs.declared.fixture.FixtureBody.{FixtureBody}
use Rattle.carton_fixture_text.specs.declared.fixture_text.FixtureReading.TheVariants.{Headed, Within}
use Rattle.carton_catalogue.specs.CatalogueRules.{IsStroke}
use Rattle.carton_fixture_text.specs.FixtureRules.{IsFixtureBody, IsFixture}
use Rattle.carton_fixture_text.specs.FixtureTexts.{stroke_told, with_body, fixture_line, fixture_lines}
use Rattle.carton_fixture_text.specs.FixtureTexts.{fixture_of, numbers_of, spelling}
use Rattle.carton_fixture_text.proofs.FixtureEntries.{way_told, way_small, body_told, comes_later}
use Rattle.carton_fixture_text.proofs.FixtureEntries.{numbers_small}

abbrev words : FixtureBody → List ℕ
words b = codes "body" ++ flat_map spaced (numbers_of b)

-- the fixture with one more body
abbrev with_one : Fixture → FixtureBody → Fixture
with_one f b = record f { bodies = f.bodies ++ b ∷ [] }

body_line_told : (f : Fixture) (b : FixtureBody) (n : ℕ) → IsFixtureBody b → All (λ c. c.id < b.id) f.bodies
    → fixture_line (Within f) n (words b) ≡ Ok (Within (with_one f b))
unfolding with_body
body_line_told f b n is later =
    let numbers =
    spelled_line (codes "body") (numbers_of b) (lacks 32 (codes "body") refl) (numbers_small b is) in
    let told = body_told f.bodies b is (comes_later f.bodies b.id later) in
    rw (numbers, told) refl

-- each comes after these, and after those before it
abbrev Come : List FixtureBody → List FixtureBody → Type 0
Come before [] = ⊤
Come before (b ∷ bodies) = All (λ c. c.id < b.id) before × Come (before ++ b ∷ []) bodies

-- the lines of bodies tell them
bodies_told : (f : Fixture) (bodies : List FixtureBody) (n : ℕ) → AllByRecursion IsFixtureBody bodies
    → Come f.bodies bodies
    → take_all fixture_lines (Within f) n (map words bodies)
    ≡ Ok (Within (record f { bodies = f.bodies ++ bodies }))
unfolding take_all
bodies_told f [] n are come = λ i. Ok (Within (record f { bodies = sym (append-nil f.bodies) i }))
bodies_told f (b ∷ bodies) n are come =
    one_taken fixture_lines (Within f) (Within (with_one f b)) n (words b) (map words bodies)
    (body_line_told f b (next_number n) are.0 come.0)
    ∙ bodies_told (with_one f b) bodies (next_number n) are.1 come.1
    ∙ (λ i. Ok (Within (record f { bodies = append_assoc f.bodies (b ∷ []) bodies i })))

body_inner : (b : FixtureBody) → IsFixtureBody b → IsInner (words b)
body_inner b is =
    (line_lacks 10 (omega arith) (codes "body") (numbers_of b) (lacks 10 (codes "body") refl) (numbers_small b is), refl)

earlier : (before : List FixtureBody) (b : FixtureBody) (bodies : List FixtureBody)
    → AllPairs (λ x y. x.id < y.id) (before ++ b ∷ bodies) → All (λ c. c.id < b.id) before
earlier before b bodies h k d lt =
    let all = before ++ b ∷ bodies in
    let less : (get_or all k d).id < (get_or all (length before) d).id =
    h k (length before) d lt (omega (arith, length-append before (b ∷ bodies))) in
    let first : (get_or all k d).id ≡ (get_or before k d).id =
    ap (λ (x : FixtureBody). x.id) (get_or_append_left before (b ∷ bodies) d k lt) in
    let second : (get_or all (length before) d).id ≡ b.id =
    ap (λ (x : FixtureBody). x.id) (get_or-append_seam before b bodies d) in
    omega arith

-- of rising bodies each comes after those before it
come_from_rising : (before bodies : List FixtureBody) → AllPairs (λ x y. x.id < y.id) (before ++ bodies)
    → Come before bodies
come_from_rising before [] h = tt
come_from_rising before (b ∷ bodies) h =
    (earlier before b bodies h, come_from_rising (before ++ b ∷ []) bodies (rw append_assoc h))

abbrev stroke_words : List ℤ → List ℕ
stroke_words stroke = codes "stroke" ++ flat_map spaced stroke

stroke_inner : (stroke : List ℤ) → IsStroke stroke → IsInner (stroke_words stroke)
stroke_inner stroke is =
    (line_lacks 10 (omega arith) (codes "stroke") stroke (lacks 10 (codes "stroke") refl) (way_small stroke is), refl)

stroke_first : (stroke : List ℤ) (n : ℕ) → IsStroke stroke → fixture_line Headed n (stroke_words stroke)
    ≡ Ok (Within (record { stroke = stroke; bodies = [] }))
unfolding stroke_told
stroke_first stroke n is =
    let numbers =
    spelled_line (codes "stroke") stroke (lacks 32 (codes "stroke") refl) (way_small stroke is) in
    rw (numbers, way_told stroke is) refl

-- the lines of the stroke and of the bodies tell them
lines_told : (f : Fixture) (n : ℕ) → IsFixture f
    → take_all fixture_lines Headed n (stroke_words f.stroke ∷ map words f.bodies) ≡ Ok (Within f)
lines_told f n is =
    let none : Fixture = record { stroke = f.stroke; bodies = [] } in
    one_taken fixture_lines Headed (Within none) n (stroke_words f.stroke) (map words f.bodies)
    (stroke_first f.stroke (next_number n) is.stroke)
    ∙ (bodies_told none f.bodies (next_number n) (recursion_from_All IsFixtureBody f.bodies is.each)
    (come_from_rising [] f.bodies is.rising))

-- the spelling of a fixture
pub fixture_spelled : (f : Fixture) → IsFixture f → fixture_of (spelling f) ≡ Ok f
unfolding fixture_of
fixture_spelled f is =
    let first = codes "carton fixture 1" in
    let between = stroke_words f.stroke ∷ map words f.bodies in
    let inner : AllByRecursion IsInner between = (
      stroke_inner f.stroke is.stroke,
      inner_lines words IsFixtureBody body_inner f.bodies
          (recursion_from_All IsFixtureBody f.bodies is.each),
    ) in
    let text : spelling f ≡ concat (map fed (first ∷ between)) ++ codes "end\n" =
    text_of_each first (stroke_words f.stroke) words f.bodies in
    let read =
    spelled_read fixture_lines first between Headed (Within f) (lacks 10 first refl) inner refl
    (lines_told f (next_number 0) is) refl in
    rw (text, read) refl
