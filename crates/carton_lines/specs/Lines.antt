-- Lines and their words, and what is told of a line.
use Rattle.std.specs.Prelude.{ℕ, ◌+◌, ◌-◌, ◌^◌, min, List, [], ◌∷◌, length, take, drop, nat_eq, bytes_eq}
use Rattle.std.specs.Prelude.{Bool, true, if◌then◌else◌, Option, Some, None, Result, Ok, Err}
use Rattle.std.specs.List.{slice_split}
use Rattle.carton_lines.specs.declared.fault.Fault.{Fault}
use Rattle.carton_lines.specs.declared.fault.Fault.TheVariants.{BadLine, Range, Duplicate, Memory}
use Rattle.carton_lines.specs.declared.fault.LineError.{LineError}
use Rattle.carton_lines.specs.declared.fault.LineError.TheVariants.{BadLine as BadLineAt, Range as RangeAt}
use Rattle.carton_lines.specs.declared.fault.LineError.TheVariants.{Duplicate as DuplicateAt}
use Rattle.carton_lines.specs.declared.fault.LineError.TheVariants.{Memory as OutOfMemory}
use Rattle.carton_base.specs.Steps.{Gives as GivesBut}

-- what a function returned, seen by view, is what the reading gives, want of memory apart
abbrev pub Gives : {X Y : Type 0} → (X → Y) → Result X Fault → Result Y Fault → Type 0
Gives view result read = GivesBut Memory view result read

-- the same of a text, whose faults have the numbers of their lines
abbrev pub GivesLines : {X Y : Type 0} → (X → Y) → Result X LineError → Result Y LineError → Type 0
GivesLines view result read = GivesBut OutOfMemory view result read

-- the line is empty or a comment
abbrev pub is_passed_over : List ℕ → Bool
is_passed_over [] = true
is_passed_over (b ∷ line) = nat_eq b 35

-- the words of a line, with one space between each two
abbrev pub words_of : List ℕ → List (List ℕ)
words_of line = slice_split (λ b. nat_eq b 32) line

-- what follows the front of a line
abbrev pub after : List ℕ → List ℕ → Option (List ℕ)
after front line = if bytes_eq (take (length front) line) front then Some (drop (length front) line) else None

-- the number of the next line; the last number stands for all later lines too
abbrev pub next_number : ℕ → ℕ
next_number n = min (n + 1) (2 ^ 32 - 1)

-- the fault of the line n
abbrev pub at_line : ℕ → Fault → LineError
at_line n BadLine = BadLineAt n
at_line n Range = RangeAt n
at_line n Duplicate = DuplicateAt n
at_line n Memory = OutOfMemory

-- what is told of line n, its number with its fault
abbrev pub told_at : {A : Type 0} → ℕ → Result A Fault → Result A LineError
told_at n (Ok x) = Ok x
told_at n (Err fault) = Err (at_line n fault)
