-- What is said to any words: the text and the status, for the bytes of the files that they name.
use Rattle.std.specs.Prelude.{◌≡◌, ◌⊎◌, ℕ, List, length, codes, Option, MatchOption, Result, Ok, Err}
use Rattle.carton_setup.specs.Printed.{line}
use Rattle.carton_setup.specs.Refusals.{refusal_text}
use Rattle.carton_setup.specs.declared.refusal.BadFile.{BadFile}
use Rattle.carton_setup.specs.declared.refusal.Rule.TheVariants.{TooLong}
use Rattle.carton_setup.specs.declared.told.Ending.TheVariants.{Done as ToldDone, Refused as ToldRefused}
use Rattle.carton_setup.specs.declared.told.Ending.TheVariants.{OutOfTurns as ToldTurns}
use Rattle.carton_setup.specs.declared.told.Told.{Told as ToldText}
use Rattle.carton_tool.specs.Answers.{tells, IsFunction}
use Rattle.carton_tool.specs.Files.{AreTold, IsAsHad, IsReached, first_long}
use Rattle.carton_tool.specs.declared.said.Ended.{Ended}
use Rattle.carton_tool.specs.declared.said.Ended.TheVariants.{BadWords, BadInput, Told}
use Rattle.carton_tool.specs.declared.said.Said.{Said}
use Rattle.carton_tool.specs.declared.status.Status.{Status}
use Rattle.carton_tool.specs.declared.status.Status.TheVariants.{Done, Refused, OutOfTurns}
use Rattle.carton_tool.specs.declared.status.Status.TheVariants.{BadInput as BadFiles, BadWords as NoWords}
use Rattle.carton_words.specs.Commands.{Command, IsCommand, IsNoCommand, files_of}

-- the status that goes with how something was said
abbrev pub status_of : Ended → Status
status_of BadWords = NoWords
status_of BadInput = BadFiles
status_of (Told ToldDone) = Done
status_of (Told ToldRefused) = Refused
status_of (Told ToldTurns) = OutOfTurns

-- what is said to words that are no command
abbrev pub bad_words : Said
bad_words = record { text = line (codes "bad words"); ended = BadWords }

-- what is said of what came of a command: what it tells, or the file that is refused
abbrev pub says : Result ToldText BadFile → Said
says (Ok told) = record { text = told.text; ended = Told told.ending }
says (Err bad) = record { text = refusal_text bad; ended = BadInput }

-- what is said of an outcome that the command allows for the bytes of its files
abbrev pub IsSaidOf : Command → List (List ℕ) → Said → Type 0
IsSaidOf c files said = (outcome : Result ToldText BadFile) × tells c files outcome × (said ≡ says outcome)

-- what is said to a command: the first file that is too long is told before any is looked at
abbrev pub IsSaidTo : Command → List (List ℕ) → Said → Type 0
IsSaidTo c files said = (length files ≡ length (files_of c))
    × MatchOption (first_long (files_of c) files) (IsSaidOf c files said)
    (λ kind. said ≡ says (Err (record { kind = kind; rule = TooLong })))

-- what is said to any words: `bad words` where they are no command
abbrev pub IsSaid : List (List ℕ) → List (List ℕ) → Said → Type 0
IsSaid words files said = (IsNoCommand words × (said ≡ bad_words))
    ⊎ ((c : Command) × IsCommand words c × IsSaidTo c files said)

-- the text and the status answer the words and the bytes of the files
abbrev pub Answers : List (List ℕ) → List (List ℕ) → List ℕ → Status → Type 0
Answers words files text status = (said : Said) × IsSaid words files said × (text ≡ said.text)
    × (status ≡ status_of said.ended)

-- the words and the bytes of the files determine the text and the status of bad words, of a command whose
-- answer is a function, and of every refusal of a file
abbrev pub IsDetermined : List (List ℕ) → Type 0
IsDetermined words = (files : List (List ℕ)) (text other : List ℕ) (status another : Status)
    → ((c : Command) → IsCommand words c → IsFunction c.verb) ⊎ (status ≡ BadFiles)
    → Answers words files text status → Answers words files other another
    → (text ≡ other) × (status ≡ another)

-- these may be the files that the words name: they have the told bytes, and one is too long exactly where the
-- last read had too many bytes
pub record AreFiles (holds : List ℕ → Option (List ℕ)) (had : ℕ) (words files : List (List ℕ)) : Type 0 where
  pub told : (c : Command) → IsCommand words c → AreTold holds (files_of c) files
  pub long : (c : Command) → IsCommand words c → IsAsHad had (files_of c) files

-- what was written grew as `grew` says by a text that answers the words with this status, for some bytes of
-- the files that they name
abbrev pub IsAnswered : (List ℕ → Option (List ℕ)) → ℕ → List (List ℕ) → Status → (List ℕ → Type 0) → Type 0
IsAnswered holds had words status grew = (files : List (List ℕ)) × AreFiles holds had words files
    × (text : List ℕ) × Answers words files text status × grew text

-- the name is that of a file that the words name, before which none is told to be too long
abbrev pub IsNamed : (List ℕ → Option (List ℕ)) → List (List ℕ) → Option (List ℕ) → Type 0
IsNamed holds words name = (c : Command) × IsCommand words c × IsReached holds (files_of c) name
