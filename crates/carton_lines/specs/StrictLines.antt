-- Lines that end with a line feed alone, and have one spelling.
use Rattle.std.specs.Prelude.{ℕ, ◌-◌, ◌++◌, ℤ, List, [], ◌∷◌, length, take, drop, flat_map, bytes_eq}
use Rattle.std.specs.Prelude.{if◌then◌else◌, Option, Some, None, Result, Err, codes}
use Rattle.std.specs.Fmt.{signed_decimal}
use Rattle.carton_lines.specs.declared.fault.Fault.{Fault}
use Rattle.carton_lines.specs.declared.fault.Fault.TheVariants.{BadLine}
use Rattle.carton_lines.specs.Numbers.{numbers_in}

-- what stands before the end of a line
abbrev pub before : List ℕ → List ℕ → Option (List ℕ)
before end line =
    if bytes_eq (drop (length line - length end) line) end then Some (take (length line - length end) line)
    else None

-- a line without its line feed, if it has one
abbrev pub whole : List ℕ → Option (List ℕ)
whole line = before (codes "\n") line

-- the numbers of a line of words, the first of which is given
abbrev pub numbers_after : List ℕ → List (List ℕ) → Result (List ℤ) Fault
numbers_after first [] = Err BadLine
numbers_after first (word ∷ words) = if bytes_eq word first then numbers_in words else Err BadLine

-- a number, with a space before it
abbrev pub spaced : ℤ → List ℕ
spaced z = codes " " ++ signed_decimal z

-- the one spelling of a line of a word and numbers
abbrev pub spelled : List ℕ → List ℤ → List ℕ
spelled word zs = (word ++ flat_map spaced zs) ++ codes "\n"
