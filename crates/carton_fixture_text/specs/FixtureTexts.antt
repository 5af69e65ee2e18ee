-- The fixture of a text, or the first rule that fails; and the text of a fixture.
use Rattle.std.specs.Prelude.{◌≡◌, ◌↔◌, ℕ, ℤ, pos, ◌++◌, List, [], ◌∷◌, flat_map, int_lt, not, bytes_eq, Bool}
use Rattle.std.specs.Prelude.{true, false, if◌then◌else◌, Result, Ok, Err, codes}
use Rattle.std.specs.List.{list_all}
use Rattle.carton_base.specs.declared.bodies.Cuboid.{Cuboid}
use Rattle.carton_base.specs.Steps.{◌>>=◌, refuse_if}
use Rattle.carton_lines.specs.declared.fault.Fault.{Fault}
use Rattle.carton_lines.specs.declared.fault.Fault.TheVariants.{BadLine, Range}
use Rattle.carton_lines.specs.declared.fault.LineError.{LineError}
use Rattle.carton_lines.specs.declared.fault.LineError.TheVariants.{NoEnd}
use Rattle.carton_lines.specs.Numbers.{from_to, at_most}
use Rattle.carton_lines.specs.Lines.{words_of}
use Rattle.carton_lines.specs.StrictLines.{numbers_after, spelled}
use Rattle.carton_lines.specs.Grammars.{Grammar}
use Rattle.carton_lines.specs.Readings.{strictly_read}
use Rattle.carton_catalogue.specs.declared.limits.TheConstants.{FARTHEST_CORNER}
use Rattle.carton_fixture_text.specs.declared.fixture.TheConstants.{LAST_BODY}
use Rattle.carton_fixture_text.specs.declared.fixture.Fixture.{Fixture}
use Rattle.carton_fixture_text.specs.declared.fixture.FixtureBody.{FixtureBody}
use Rattle.carton_fixture_text.specs.declared.fixture_text.FixtureReading.{FixtureReading}
use Rattle.carton_fixture_text.specs.declared.fixture_text.FixtureReading.TheVariants.{Headed, Within}
use Rattle.carton_fixture_text.specs.FixtureRules.{IsFixture}

-- a number within the bounds of a catalogue
abbrev pub near : ℤ → Result ℤ Fault
near z = at_most FARTHEST_CORNER z

-- a way along three axes
unfoldable pub way_of : List ℤ → Result (List ℤ) Fault
way_of (a ∷ b ∷ c ∷ []) = do
  x ← near a
  y ← near b
  z ← near c
  Ok (x ∷ y ∷ z ∷ [])
way_of zs = Err BadLine

-- the stroke that the second line tells
unfoldable pub stroke_told : List ℕ → Result (List ℤ) Fault
stroke_told line = numbers_after (codes "stroke") (words_of line) >>= way_of

-- two sides, the lesser first
unfoldable pub span_of : ℤ → ℤ → Result (ℤ × ℤ) Fault
span_of a b = do
  low ← near a
  high ← near b
  fine ← refuse_if (not (int_lt low high)) Range
  Ok (low, high)

-- the number is greater than those of the bodies so far
abbrev pub comes_after : List FixtureBody → ℤ → Bool
comes_after bodies z = list_all (λ b. int_lt (pos b.id) z) bodies

-- the box between these sides
abbrev pub box_between : ℤ × ℤ → ℤ × ℤ → ℤ × ℤ → Cuboid
box_between x y z = record { x0 = x.0; x1 = x.1; y0 = y.0; y1 = y.1; z0 = z.0; z1 = z.1 }

-- a body after those so far: its number and six sides
unfoldable pub body_of : List FixtureBody → List ℤ → Result FixtureBody Fault
body_of bodies (i ∷ a ∷ b ∷ c ∷ d ∷ e ∷ f ∷ []) = do
  fine ← refuse_if (not (comes_after bodies i)) BadLine
  id ← from_to 0 LAST_BODY i
  x ← span_of a b
  y ← span_of c d
  z ← span_of e f
  Ok (record { id = id; shape = box_between x y z })
body_of bodies zs = Err BadLine

-- the fixture so far with one more body, that a line tells
unfoldable pub with_body : Fixture → List ℕ → Result Fixture Fault
with_body f line = do
  zs ← numbers_after (codes "body") (words_of line)
  body ← body_of f.bodies zs
  Ok (record f { bodies = f.bodies ++ body ∷ [] })

-- the first line
abbrev pub begun : List ℕ → Result FixtureReading Fault
begun line = if bytes_eq line (codes "carton fixture 1") then Ok Headed else Err BadLine

-- the second line tells the stroke, and each later one a body
abbrev pub fixture_line : FixtureReading → ℕ → List ℕ → Result FixtureReading Fault
fixture_line Headed n line =
    stroke_told line >>= λ stroke. Ok (Within (record { stroke = stroke; bodies = [] }))
fixture_line (Within f) n line = with_body f line >>= λ g. Ok (Within g)

-- `end` ends a fixture whose stroke was told
abbrev pub may_end : FixtureReading → Bool
may_end Headed = false
may_end (Within f) = true

-- the lines of a fixture
abbrev pub fixture_lines : Grammar FixtureReading
fixture_lines = record { begin = begun; take = fixture_line; may_end = may_end }

-- what the lines told in all
abbrev pub fixture_told : FixtureReading → Result Fixture LineError
fixture_told Headed = Err NoEnd
fixture_told (Within f) = Ok f

-- the fixture of the bytes of a text
unfoldable pub fixture_of : List ℕ → Result Fixture LineError
fixture_of bytes = strictly_read fixture_lines bytes >>= fixture_told

-- the number of a body, and the sides of its box
abbrev pub numbers_of : FixtureBody → List ℤ
numbers_of b = pos b.id ∷ b.shape.x0 ∷ b.shape.x1 ∷ b.shape.y0 ∷ b.shape.y1 ∷ b.shape.z0 ∷ b.shape.z1 ∷ []

-- the line of a body
abbrev pub body_line : FixtureBody → List ℕ
body_line b = spelled (codes "body") (numbers_of b)

-- the one spelling of a fixture
abbrev pub spelling : Fixture → List ℕ
spelling f =
    codes "carton fixture 1\n"
    ++ (spelled (codes "stroke") f.stroke ++ (flat_map body_line f.bodies ++ codes "end\n"))

-- the text is read as a fixture exactly where it is the fixture's spelling and the fixture keeps its rules
abbrev pub HasOneSpelling : List ℕ → Type 0
HasOneSpelling bytes = (f : Fixture) → (fixture_of bytes ≡ Ok f) ↔ (IsFixture f × (bytes ≡ spelling f))
