-- The lines of a catalogue, each by itself.
use Rattle.std.specs.Prelude.{ℕ, ◌*◌, ◌%◌, ℤ, pos, ◌+ℤ◌, ◌*ℤ◌, unsigned_abs, int_lt, List, [], ◌∷◌, length}
use Rattle.std.specs.Prelude.{slice_index_or, not, nat_eq, nat_lt, nat_le, bytes_eq, ◌&&◌, Bool}
use Rattle.std.specs.Prelude.{if◌then◌else◌, Option, Some, None, ok_or, Result, Ok, Err, codes}
use Rattle.std.specs.List.{range_with_len}
use Rattle.carton_base.specs.declared.limits.TheConstants.{FARTHEST}
use Rattle.carton_base.specs.declared.bodies.Cuboid.{Cuboid}
use Rattle.carton_base.specs.declared.bodies.Guide.{Guide}
use Rattle.carton_base.specs.declared.dieline.Point.{Point}
use Rattle.carton_base.specs.Steps.{◌>>=◌, refuse_if, entries_from}
use Rattle.carton_lines.specs.declared.fault.Fault.{Fault}
use Rattle.carton_lines.specs.declared.fault.Fault.TheVariants.{BadLine, Range}
use Rattle.carton_lines.specs.Lines.{words_of}
use Rattle.carton_lines.specs.Numbers.{numbers_in, from_to, at_most}
use Rattle.carton_catalogue.specs.declared.lines.Keyword.{Keyword}
use Rattle.carton_catalogue.specs.declared.lines.Keyword.TheVariants.{Stroke, Body, Row, Guide as GuideWord}
use Rattle.carton_catalogue.specs.declared.lines.CatalogueLine.{CatalogueLine}
use Rattle.carton_catalogue.specs.declared.lines.CatalogueLine.TheVariants.{Stroke as StrokeLine, Bodies}
use Rattle.carton_catalogue.specs.declared.lines.CatalogueLine.TheVariants.{Guide as GuideLine}
use Rattle.carton_catalogue.specs.declared.limits.TheConstants.{FARTHEST_CORNER, LAST_EDGE, LAST_MOVE}
use Rattle.carton_catalogue.specs.declared.limits.TheConstants.{MOST_BODIES, MOST_PROBES, WIDEST_BAND}

-- the number in a place of a list
abbrev pub at : List ℤ → ℕ → ℤ
at zs k = slice_index_or zs k (pos 0)

-- so many numbers, each within the bounds of a catalogue
unfoldable pub coordinates_in : ℕ → List ℤ → Result (List ℤ) Fault
coordinates_in count zs = do
  fine ← refuse_if (not (nat_eq (length zs) count)) BadLine
  entries_from (λ i. at_most FARTHEST_CORNER) 0 zs

-- the three numbers of the stroke
unfoldable pub stroke_in : List ℤ → Result (List ℤ) Fault
stroke_in zs = coordinates_in 3 zs

-- the two sides of a box lie within the bounds, the one below the other
unfoldable pub is_span : ℤ → ℤ → Bool
is_span low high =
    nat_le (unsigned_abs low) FARTHEST_CORNER
    && (nat_le (unsigned_abs high) FARTHEST_CORNER && int_lt low high)

-- a catalogue may have the box
unfoldable pub is_body : Cuboid → Bool
is_body b = is_span b.x0 b.x1 && (is_span b.y0 b.y1 && is_span b.z0 b.z1)

-- the box as a body
abbrev pub body : Cuboid → Result Cuboid Fault
body b = if is_body b then Ok b else Err Range

-- the box of six numbers
unfoldable pub cuboid_of : List ℤ → Cuboid
cuboid_of zs = record { x0 = at zs 0; x1 = at zs 1; y0 = at zs 2; y1 = at zs 3; z0 = at zs 4; z1 = at zs 5 }

-- the one body of a line
unfoldable pub bodies_in : List ℤ → Result (List Cuboid) Fault
bodies_in zs = do
  sides ← coordinates_in 6 zs
  b ← body (cuboid_of sides)
  Ok (b ∷ [])

-- where a side stands after so many shifts
unfoldable pub moved : ℤ → ℤ → ℕ → ℤ
moved side shift k = side +ℤ pos k *ℤ shift

-- box k of a row whose numbers are those of the shift, then those of the first box
unfoldable pub box_of_row : List ℤ → ℕ → Cuboid
box_of_row zs k = record {
  x0 = moved (at zs 3) (at zs 0) k;
  x1 = moved (at zs 4) (at zs 0) k;
  y0 = moved (at zs 5) (at zs 1) k;
  y1 = moved (at zs 6) (at zs 1) k;
  z0 = moved (at zs 7) (at zs 2) k;
  z1 = moved (at zs 8) (at zs 2) k;
}

abbrev pub body_of_row : List ℤ → ℕ → Result Cuboid Fault
body_of_row zs k = body (box_of_row zs k)

-- the bodies of a row: how many, and then the numbers of the shift and of the first box
unfoldable pub row_in : List ℤ → Result (List Cuboid) Fault
row_in [] = Err BadLine
row_in (n ∷ zs) = do
  numbers ← coordinates_in 9 zs
  count ← from_to 1 MOST_BODIES n
  entries_from (λ i. body_of_row numbers) 0 (range_with_len 0 count)

-- the points of numbers that are taken two by two
abbrev pub points_of : List ℤ → List Point
points_of [] = []
points_of (x ∷ []) = []
points_of (x ∷ y ∷ zs) = (record { x = x; y = y }) ∷ points_of zs

-- numbers two by two, at least two of them
abbrev pub are_pairs : List ℤ → Bool
are_pairs zs = not (nat_eq (length zs) 0) && nat_eq (length zs % 2) 0

-- the probes of a guide
unfoldable pub probes_in : List ℤ → Result (List Point) Fault
probes_in zs = do
  fine ← refuse_if (not (are_pairs zs)) BadLine
  fine ← refuse_if (nat_lt (2 * MOST_PROBES) (length zs)) Range
  numbers ← entries_from (λ i. at_most FARTHEST) 0 zs
  Ok (points_of numbers)

-- the guide of a line: its edge, its first and its last move, its band and its probes
unfoldable pub guide_in : List ℤ → Result Guide Fault
guide_in (e ∷ f ∷ l ∷ b ∷ zs) = do
  probes ← probes_in zs
  edge ← from_to 0 LAST_EDGE e
  first ← from_to 0 LAST_MOVE f
  last ← from_to 0 LAST_MOVE l
  band ← from_to 1 WIDEST_BAND b
  Ok (record { edge = record { 0 = edge }; first = first; last = last; band = band; probes = probes })
guide_in _ = Err BadLine

-- the first word of a line
unfoldable pub keyword_in : List ℕ → Option Keyword
keyword_in word =
    if bytes_eq word (codes "stroke") then Some Stroke else (
    if bytes_eq word (codes "body") then Some Body else (
    if bytes_eq word (codes "row") then Some Row else (
    if bytes_eq word (codes "guide") then Some GuideWord else None)))

-- the line of a word and its numbers
unfoldable pub numbered : Keyword → List ℤ → Result CatalogueLine Fault
numbered Stroke zs = stroke_in zs >>= λ stroke. Ok (StrokeLine stroke)
numbered Body zs = bodies_in zs >>= λ bodies. Ok (Bodies bodies)
numbered Row zs = row_in zs >>= λ bodies. Ok (Bodies bodies)
numbered GuideWord zs = guide_in zs >>= λ guide. Ok (GuideLine guide)

-- the line of some words
unfoldable pub worded : List (List ℕ) → Result CatalogueLine Fault
worded [] = Err BadLine
worded (word ∷ words) = do
  keyword ← ok_or (keyword_in word) BadLine
  numbers ← numbers_in words
  numbered keyword numbers

-- a line between the first and the last
unfoldable pub line_in : List ℕ → Result CatalogueLine Fault
line_in line = worded (words_of line)
