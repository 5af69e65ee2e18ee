-- A row of the table of commands, and the command that a word names.
use Rattle.std.specs.Prelude.{◌≡◌, ℕ, List, [], ◌∷◌, Option, Some, None, if◌then◌else◌}
use Rattle.std.specs.Str.{bytes_eq}
use Rattle.carton_words.specs.declared.kinds.FileKind.{FileKind}
use Rattle.carton_words.specs.declared.table.Slot.{Slot}
use Rattle.carton_words.specs.declared.table.Slot.TheVariants.{File, Margin, End, Count}
use Rattle.carton_words.specs.declared.table.Verb.{Verb}

-- what a command is called, and what its further words stand for, in their order
pub record Row : Type 0 where
  pub word : List ℕ
  pub slots : List Slot

-- the kinds of the files that a row reads, in the order of reading
abbrev pub kinds_in : List Slot → List FileKind
kinds_in [] = []
kinds_in (File kind ∷ slots) = kind ∷ kinds_in slots
kinds_in (Margin ∷ slots) = kinds_in slots
kinds_in (End ∷ slots) = kinds_in slots
kinds_in (Count ∷ slots) = kinds_in slots

-- the first of some commands that a word names
abbrev pub verb_in : (Verb → Row) → List Verb → List ℕ → Option Verb
verb_in row [] word = None
verb_in row (verb ∷ verbs) word = if bytes_eq word (row verb).word then Some verb else verb_in row verbs word

-- each of the listed commands is found by its word, so their words differ
abbrev pub Differ : (Verb → Row) → List Verb → Type 0
Differ row listed = (verb : Verb) → verb_in row listed (row verb).word ≡ Some verb
