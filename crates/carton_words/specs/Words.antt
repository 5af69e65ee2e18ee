-- What a word behind a command's name may be, and what it gives.
use Rattle.std.specs.Prelude.{⊤, ◌≡◌, ◌≢◌, ℕ, ◌≤◌, List, [], ◌∷◌, codes}
use Rattle.std.specs.Prelude.{Option, Some, None, map, String, string_bytes}
use Rattle.std.specs.declared.alloc.Global.{Global}
use Rattle.std.specs.Fmt.{decimal}
use Rattle.carton_base.specs.declared.limits.TheConstants.{WIDEST_MARGIN}
use Rattle.carton_words.specs.Kinds.{Named}
use Rattle.carton_words.specs.declared.ends.End.{End}
use Rattle.carton_words.specs.declared.ends.End.TheVariants.{Start, Target}
use Rattle.carton_words.specs.declared.givens.TheConstants.{MOST_MADE}
use Rattle.carton_words.specs.declared.table.Slot.{Slot}
use Rattle.carton_words.specs.declared.table.Slot.TheVariants.{File, Margin, End as EndOfTask, Count}

-- the bytes of the words
abbrev pub texts : List (String Global) → List (List ℕ)
texts words = map string_bytes words

-- the word for an end of a task
abbrev pub end_word : End → List ℕ
end_word Start = codes "start"
end_word Target = codes "target"

-- what a word gives
pub data Given : Type 0 where
  a_file : Named → Given
  a_margin : ℕ → Given
  an_end : End → Given
  a_count : ℕ → Given

-- A word gives this at a slot. The name of a file isn't empty; a number lies in its range, and is in
-- decimal, with no sign or leading zero.
abbrev pub IsGiven : Slot → List ℕ → Given → Type 0
IsGiven (File kind) word (a_file file) = (file.kind ≡ kind) × (word ≡ file.name) × (word ≢ [])
IsGiven Margin word (a_margin margin) = (margin ≤ WIDEST_MARGIN) × (word ≡ decimal margin)
IsGiven EndOfTask word (an_end end) = word ≡ end_word end
IsGiven Count word (a_count count) = (1 ≤ count) × (count ≤ MOST_MADE) × (word ≡ decimal count)
IsGiven slot word given = ⊥

-- a word gives at a slot what was found, or nothing where nothing was found
abbrev pub IsFoundAt : Slot → List ℕ → Option Given → Type 0
IsFoundAt slot word None = (given : Given) → ¬ (IsGiven slot word given)
IsFoundAt slot word (Some given) = IsGiven slot word given

-- the words, one for each slot, give this
abbrev pub AreGiven : List Slot → List (List ℕ) → List Given → Type 0
AreGiven [] [] [] = ⊤
AreGiven (slot ∷ slots) (word ∷ words) (g ∷ given) = IsGiven slot word g × AreGiven slots words given
AreGiven slots words given = ⊥

-- the words give at the slots what was found, or nothing where nothing was found
abbrev pub AreFound : List Slot → List (List ℕ) → Option (List Given) → Type 0
AreFound slots words None = (given : List Given) → ¬ (AreGiven slots words given)
AreFound slots words (Some given) = AreGiven slots words given
