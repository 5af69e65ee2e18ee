-- Which words are a command, and what the command reads.
use Rattle.std.specs.Prelude.{◌≡◌, ℕ, List, [], ◌∷◌, Option, Some, None}
use Rattle.carton_words.specs.Kinds.{Named}
use Rattle.carton_words.specs.Rows.{Row}
use Rattle.carton_words.specs.Table.{row_of}
use Rattle.carton_words.specs.Words.{Given, a_file, a_margin, an_end, a_count, AreGiven}
use Rattle.carton_words.specs.declared.ends.End.{End}
use Rattle.carton_words.specs.declared.ends.End.TheVariants.{Start}
use Rattle.carton_words.specs.declared.table.Verb.{Verb}

-- a command, and what its further words give
pub record Command : Type 0 where
  pub verb : Verb
  pub given : List Given

-- the words are this command of a table
abbrev pub IsCommandIn : (Verb → Row) → List (List ℕ) → Command → Type 0
IsCommandIn row [] c = ⊥
IsCommandIn row (word ∷ words) c = (word ≡ (row c.verb).word) × AreGiven (row c.verb).slots words c.given

-- the words are this command
abbrev pub IsCommand : List (List ℕ) → Command → Type 0
IsCommand words c = IsCommandIn row_of words c

-- the words are no command
abbrev pub IsNoCommand : List (List ℕ) → Type 0
IsNoCommand words = (c : Command) → ¬ (IsCommand words c)

-- the words are the command that was found, or none where none was found
abbrev pub IsFound : List (List ℕ) → Option Command → Type 0
IsFound words None = IsNoCommand words
IsFound words (Some c) = IsCommand words c

-- the files among what the words give
abbrev pub files_in : List Given → List Named
files_in [] = []
files_in (a_file file ∷ given) = file ∷ files_in given
files_in (a_margin margin ∷ given) = files_in given
files_in (an_end end ∷ given) = files_in given
files_in (a_count count ∷ given) = files_in given

-- the files that a command reads, in the order of reading
abbrev pub files_of : Command → List Named
files_of c = files_in c.given

-- the margin among what the words give, and 0 where there is none
abbrev pub margin_in : List Given → ℕ
margin_in [] = 0
margin_in (a_margin margin ∷ given) = margin
margin_in (a_file file ∷ given) = margin_in given
margin_in (an_end end ∷ given) = margin_in given
margin_in (a_count count ∷ given) = margin_in given

abbrev pub margin_of : Command → ℕ
margin_of c = margin_in c.given

-- the end of the task among what the words give, and the start where there is none
abbrev pub end_in : List Given → End
end_in [] = Start
end_in (an_end end ∷ given) = end
end_in (a_file file ∷ given) = end_in given
end_in (a_margin margin ∷ given) = end_in given
end_in (a_count count ∷ given) = end_in given

abbrev pub end_of : Command → End
end_of c = end_in c.given

-- the number of dielines among what the words give, and 1 where there is none
abbrev pub count_in : List Given → ℕ
count_in [] = 1
count_in (a_count count ∷ given) = count
count_in (a_file file ∷ given) = count_in given
count_in (a_margin margin ∷ given) = count_in given
count_in (an_end end ∷ given) = count_in given

abbrev pub count_of : Command → ℕ
count_of c = count_in c.given
