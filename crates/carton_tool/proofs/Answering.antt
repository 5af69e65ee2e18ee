-- What is said to any words, from what is said to a command.
use Rattle.std.proofs.Common.{◌≡◌, ℕ, suc, inl, inr, List, [], ◌∷◌, length, sym, subst, refl, ap, Ok, Err}
use Rattle.std.proofs.Common.{Option, Some, None}
use Rattle.std.specs.Prelude.{MatchOption}
use Rattle.carton_setup.specs.declared.refusal.Rule.TheVariants.{TooLong}
use Rattle.carton_tool.specs.Files.{AreTold, IsAsHad, first_long}
use Rattle.carton_tool.specs.Reading.{AreRead, AreAllRead}
use Rattle.carton_tool.specs.Saying.{bad_words, says, IsSaidOf, IsSaidTo, IsSaid, AreFiles}
use Rattle.carton_tool.specs.declared.said.Ended.TheVariants.{BadWords}
use Rattle.carton_tool.specs.declared.said.Said.{Said}
use Rattle.carton_words.proofs.Commands.{one_command}
use Rattle.carton_words.specs.Commands.{Command, IsCommand, IsNoCommand, files_of}
use Rattle.carton_words.specs.Kinds.{Named}
use Rattle.carton_words.specs.declared.kinds.FileKind.{FileKind}

-- as many files are told as there are names
told_count : (holds : List ℕ → Option (List ℕ)) (named : List Named) (files : List (List ℕ))
    → AreTold holds named files → length files ≡ length named
told_count holds [] [] h = refl
told_count holds [] (file ∷ files) h = absurd h
told_count holds (f ∷ named) [] h = absurd h
told_count holds (f ∷ named) (file ∷ files) h = ap suc (told_count holds named files h.1)

-- what is said to one command, for files that may be those that it names, is said to its words
said_to : (holds : List ℕ → Option (List ℕ)) (had : ℕ) (words : List (List ℕ)) (c : Command)
    (files : List (List ℕ)) (said : Said) → IsCommand words c
    → AreTold holds (files_of c) files → IsAsHad had (files_of c) files → IsSaidTo c files said
    → (others : List (List ℕ)) × AreFiles holds had words others × IsSaid words others said
said_to holds had words c files said is told long h = (
  files,
  record {
    told = λ d is'. subst (λ x. AreTold holds (files_of x) files) (one_command words c d is is') told;
    long = λ d is'. subst (λ x. IsAsHad had (files_of x) files) (one_command words c d is is') long;
  },
  inr (c, is, h),
)

abbrev Here : Command → List (List ℕ) → Said → Option FileKind → Type 0
Here c files said first =
    MatchOption first (IsSaidOf c files said)
    (λ kind. said ≡ says (Err (record { kind = kind; rule = TooLong })))

-- what is said of the files that were read is said to the words
pub answered : (holds : List ℕ → Option (List ℕ)) (had : ℕ) (words : List (List ℕ)) (c : Command)
    (files : List (List ℕ)) (said : Said)
    → IsCommand words c → AreAllRead holds had (files_of c) files → IsSaidOf c files said
    → (others : List (List ℕ)) × AreFiles holds had words others × IsSaid words others said
answered holds had words c files said is read h =
    said_to holds had words c files said is read.told read.long
    (told_count holds (files_of c) files read.told, subst (Here c files said) (sym read.first_is) h)

-- and so is that one of them is too long
pub told_long : (holds : List ℕ → Option (List ℕ)) (had : ℕ) (words : List (List ℕ)) (c : Command)
    (kind : FileKind) (said : Said)
    → IsCommand words c → (files : List (List ℕ)) × AreRead holds had (files_of c) (Some kind) files
    → said ≡ says (Err (record { kind = kind; rule = TooLong }))
    → (others : List (List ℕ)) × AreFiles holds had words others × IsSaid words others said
told_long holds had words c kind said is read h =
    let files = read.0 in
    said_to holds had words c files said is read.1.told read.1.long
    (told_count holds (files_of c) files read.1.told, subst (Here c files said) (sym read.1.first_is) h)

-- so are bad words, where they are no command
pub told_bad_words : (holds : List ℕ → Option (List ℕ)) (had : ℕ) (words : List (List ℕ)) (said : Said)
    → IsNoCommand words → said ≡ bad_words
    → (others : List (List ℕ)) × AreFiles holds had words others × IsSaid words others said
told_bad_words holds had words said none is = (
  [],
  record { told = λ c command. absurd (none c command); long = λ c command. absurd (none c command) },
  inl (none, is),
)

-- what a command says isn't bad words
not_bad_words : (c : Command) (files : List (List ℕ)) (said : Said) (first : Option FileKind)
    → Here c files said first → said.ended ≡ BadWords → ⊥
not_bad_words c files said (Some kind) is bad = let same = ap (λ (s : Said). s.ended) is in cc
not_bad_words c files said None (Ok told, t, is) bad = let same = ap (λ (s : Said). s.ended) is in cc
not_bad_words c files said None (Err file, t, is) bad = let same = ap (λ (s : Said). s.ended) is in cc

pub no_command_where_said : (words files : List (List ℕ)) (said : Said) → IsSaid words files said
    → said.ended ≡ BadWords → IsNoCommand words
no_command_where_said words files said h bad = elim h [
  | inl none ↦ none.0
  | inr found ↦ absurd (not_bad_words found.0 files said (first_long (files_of found.0) files) found.2.1 bad)
]

pub bad_words_where_none : (words files : List (List ℕ)) (said : Said) → IsSaid words files said
    → IsNoCommand words → said.ended ≡ BadWords
bad_words_where_none words files said h none = elim h [
  | inl bad ↦ ap (λ (s : Said). s.ended) bad.1
  | inr found ↦ absurd (none found.0 found.1)
]

-- what is said to words that are this command is said to the command
pub own_saying : (words files : List (List ℕ)) (c : Command) (said : Said) → IsCommand words c
    → IsSaid words files said → IsSaidTo c files said
own_saying words files c said command h = elim h [
  | inl none ↦ absurd (none.0 c command)
  | inr found ↦ subst (λ x. IsSaidTo x files said) (one_command words found.0 c found.1 command) found.2
]
