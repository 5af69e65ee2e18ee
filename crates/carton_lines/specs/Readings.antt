-- Texts of lines by their grammars: a first line, lines after it, and the line `end`.
use Rattle.std.specs.Prelude.{ℕ, List, [], ◌∷◌, bytes_eq, Bool, true, false, if◌then◌else◌, Option, Some}
use Rattle.std.specs.Prelude.{None, Result, Ok, Err, codes}
use Rattle.bstr.specs.Text.{lines_of}
use Rattle.carton_base.specs.Steps.{◌>>=◌}
use Rattle.carton_lines.specs.declared.fault.Fault.{Fault}
use Rattle.carton_lines.specs.declared.fault.Fault.TheVariants.{BadLine}
use Rattle.carton_lines.specs.declared.fault.LineError.{LineError}
use Rattle.carton_lines.specs.declared.fault.LineError.TheVariants.{BadLine as BadLineAt, NoEnd}
use Rattle.carton_lines.specs.declared.reading.Reading.{Reading}
use Rattle.carton_lines.specs.declared.reading.Reading.TheVariants.{Before, Within, Ended}
use Rattle.carton_lines.specs.declared.way.Way.{Way}
use Rattle.carton_lines.specs.declared.way.Way.TheVariants.{Free, Strict}
use Rattle.carton_lines.specs.Lines.{next_number, told_at}
use Rattle.carton_lines.specs.Ways.{line_of, passes_over}
use Rattle.carton_lines.specs.Grammars.{Grammar}

-- the line that ends a text
abbrev pub is_end : List ℕ → Bool
is_end line = bytes_eq line (codes "end")

-- line n, which isn't passed over, after those that were read
abbrev pub next_line : {D : Type 0} → Grammar D → Reading D → ℕ → List ℕ → Result (Reading D) Fault
next_line g Before n line = g.begin line >>= λ d. Ok (Within d)
next_line g (Within d) n line =
    if is_end line then (if g.may_end d then Ok (Ended d) else Err BadLine) else (
    g.take d n line >>= λ e. Ok (Within e))
next_line g (Ended d) n line = Err BadLine

abbrev pub has_ended : {D : Type 0} → Reading D → Bool
has_ended Before = false
has_ended (Within d) = false
has_ended (Ended d) = true

-- line n, if it is one; what follows the last line feed of a strict text is none: the text goes on after
-- its end, or has no end
abbrev pub line_step : {D : Type 0} → Grammar D → Way → Reading D → ℕ → Option (List ℕ)
    → Result (Reading D) LineError
line_step g way r n None = Err (if has_ended r then BadLineAt n else NoEnd)
line_step g way r n (Some line) = if passes_over way line then Ok r else told_at n (next_line g r n line)

-- line n, with its line feed
abbrev pub step : {D : Type 0} → Grammar D → Way → Reading D → ℕ → List ℕ → Result (Reading D) LineError
step g way r n piece = line_step g way r n (line_of way piece)

-- what the lines after line n make of a, where each step makes the next of what the earlier lines made
unfoldable pub read_lines : {A : Type 0} → (A → ℕ → List ℕ → Result A LineError) → A → ℕ → List (List ℕ)
    → Result A LineError
read_lines step a n [] = Ok a
read_lines step a n (line ∷ lines) = do
  b ← step a (next_number n) line
  read_lines step b (next_number n) lines

-- what the lines told in all, if one of them was `end`
abbrev pub finished : {D : Type 0} → Reading D → Result D LineError
finished Before = Err NoEnd
finished (Within d) = Err NoEnd
finished (Ended d) = Ok d

-- what the bytes of a text tell
abbrev pub read : {D : Type 0} → Grammar D → Way → List ℕ → Result D LineError
read g way bytes = read_lines (step g way) Before 0 (lines_of bytes) >>= finished

-- what the bytes of a free text tell
unfoldable pub freely_read : {D : Type 0} → Grammar D → List ℕ → Result D LineError
freely_read g bytes = read g Free bytes

-- what the bytes of a strict text tell
unfoldable pub strictly_read : {D : Type 0} → Grammar D → List ℕ → Result D LineError
strictly_read g bytes = read g Strict bytes
