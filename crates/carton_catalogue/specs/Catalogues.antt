-- The catalogue of a text, or the first rule that fails.
use Rattle.std.specs.Prelude.{ℕ, ◌+◌, ℤ, pos, ◌++◌, List, [], ◌∷◌, length, nat_eq, nat_lt, nat_le, bytes_eq}
use Rattle.std.specs.Prelude.{is_some, true, if◌then◌else◌, Some, None, unwrap_or, Result, Ok, Err, codes}
use Rattle.carton_base.specs.declared.bodies.Cuboid.{Cuboid}
use Rattle.carton_base.specs.declared.bodies.Guide.{Guide}
use Rattle.carton_base.specs.Steps.{◌>>=◌}
use Rattle.carton_lines.specs.declared.fault.Fault.{Fault}
use Rattle.carton_lines.specs.declared.fault.Fault.TheVariants.{BadLine, Range, Duplicate}
use Rattle.carton_lines.specs.declared.fault.LineError.{LineError}
use Rattle.carton_lines.specs.declared.fault.LineError.TheVariants.{BadLine as BadLineAt, Range as RangeAt}
use Rattle.carton_lines.specs.declared.fault.LineError.TheVariants.{Duplicate as DuplicateAt, NoEnd}
use Rattle.carton_lines.specs.declared.fault.LineError.TheVariants.{Memory as OutOfMemory}
use Rattle.carton_lines.specs.Grammars.{Grammar}
use Rattle.carton_lines.specs.Readings.{freely_read}
use Rattle.carton_catalogue.specs.declared.catalogue.Catalogue.{Catalogue}
use Rattle.carton_catalogue.specs.declared.catalogue_error.CatalogueError.{CatalogueError}
use Rattle.carton_catalogue.specs.declared.catalogue_error.CatalogueError.TheVariants.{Line, NoGuide, Memory}
use Rattle.carton_catalogue.specs.declared.lines.CatalogueLine.{CatalogueLine}
use Rattle.carton_catalogue.specs.declared.lines.CatalogueLine.TheVariants.{Stroke, Bodies}
use Rattle.carton_catalogue.specs.declared.lines.CatalogueLine.TheVariants.{Guide as GuideLine}
use Rattle.carton_catalogue.specs.declared.draft.CatalogueDraft.{CatalogueDraft}
use Rattle.carton_catalogue.specs.declared.limits.TheConstants.{MOST_BODIES, MOST_GUIDES}
use Rattle.carton_catalogue.specs.CatalogueLines.{line_in}

-- a catalogue of which no line has told anything yet
abbrev pub new_draft : CatalogueDraft
new_draft = record { stroke = None; bodies = []; guides = [] }

-- the stroke, which no earlier line told
unfoldable pub with_stroke : CatalogueDraft → List ℤ → Result CatalogueDraft Fault
with_stroke d stroke = if is_some d.stroke then Err Duplicate else Ok (record d { stroke = Some stroke })

-- more bodies, after those that were told
unfoldable pub with_bodies : CatalogueDraft → List Cuboid → Result CatalogueDraft Fault
with_bodies d more = if nat_lt MOST_BODIES (length d.bodies + length more) then Err Range else Ok
    (record d { bodies = d.bodies ++ more })

-- one more guide
unfoldable pub with_guide : CatalogueDraft → Guide → Result CatalogueDraft Fault
with_guide d guide =
    if nat_le MOST_GUIDES (length d.guides) then Err Range else Ok
    (record d { guides = d.guides ++ guide ∷ [] })

-- what a line adds to what the earlier lines told
unfoldable pub add : CatalogueDraft → CatalogueLine → Result CatalogueDraft Fault
add d (Stroke stroke) = with_stroke d stroke
add d (Bodies more) = with_bodies d more
add d (GuideLine guide) = with_guide d guide

-- the first line
abbrev pub begun : List ℕ → Result CatalogueDraft Fault
begun line = if bytes_eq line (codes "carton catalogue 1") then Ok new_draft else Err BadLine

-- a line after the first, whatever its number
abbrev pub later_line : CatalogueDraft → ℕ → List ℕ → Result CatalogueDraft Fault
later_line d n line = line_in line >>= add d

-- the lines of a catalogue, after any of which `end` may stand
abbrev pub catalogue_lines : Grammar CatalogueDraft
catalogue_lines = record { begin = begun; take = later_line; may_end = λ d. true }

-- the catalogue that the lines up to `end` told, if one of them is a guide
abbrev pub told : CatalogueDraft → Result Catalogue CatalogueError
told d =
    if nat_eq (length d.guides) 0 then Err NoGuide else Ok
    (record {
      stroke = unwrap_or d.stroke (pos 0 ∷ pos 0 ∷ pos 0 ∷ []);
      bodies = d.bodies;
      guides = d.guides;
    })

-- a fault of the lines as one of a catalogue
abbrev pub of_a_line : LineError → CatalogueError
of_a_line (BadLineAt n) = Line (BadLineAt n)
of_a_line (RangeAt n) = Line (RangeAt n)
of_a_line (DuplicateAt n) = Line (DuplicateAt n)
of_a_line NoEnd = Line NoEnd
of_a_line OutOfMemory = Memory

-- what the lines gave, with their fault as one of a catalogue
abbrev pub of_lines : Result CatalogueDraft LineError → Result CatalogueDraft CatalogueError
of_lines (Ok d) = Ok d
of_lines (Err fault) = Err (of_a_line fault)

-- the catalogue of the bytes of a text
unfoldable pub catalogue_of : List ℕ → Result Catalogue CatalogueError
catalogue_of bytes = of_lines (freely_read catalogue_lines bytes) >>= told
