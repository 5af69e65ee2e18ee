-- The two ways in which the lines of a text are read.
use Rattle.std.specs.Prelude.{ℕ, List, Bool, false, Option, Some}
use Rattle.bstr.specs.Text.{without_terminator}
use Rattle.carton_lines.specs.declared.way.Way.{Way}
use Rattle.carton_lines.specs.declared.way.Way.TheVariants.{Free, Strict}
use Rattle.carton_lines.specs.Lines.{is_passed_over}
use Rattle.carton_lines.specs.StrictLines.{whole}

-- the line of what stands up to a line feed or up to the end of the text: in a free text a carriage return
-- before
-- the line feed goes with it, and the last line may lack its line feed; in a strict text what lacks it is
-- no line
abbrev pub line_of : Way → List ℕ → Option (List ℕ)
line_of Free piece = Some (without_terminator piece)
line_of Strict piece = whole piece

-- in a free text empty lines and comments change nothing
abbrev pub passes_over : Way → List ℕ → Bool
passes_over Free line = is_passed_over line
passes_over Strict line = false
