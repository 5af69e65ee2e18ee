-- Of a command that asks of a plan, done is told only of a sound plan, and of made cartons exactly what may
-- come of planning is.
use Rattle.std.proofs.Common.{◌≡◌, ℕ, List, [], ◌∷◌, inl, inr, refl, sym, ◌∙◌, ap, subst, Result, Ok, Err}
use Rattle.std.proofs.Common.{Option, Some, None}
use Rattle.std.specs.Prelude.{IfSome, MatchOption}
use Rattle.carton_plan_commands.proofs.MadeLines.{made_text}
use Rattle.carton_plan_commands.proofs.Sound.{sound_check, sound_clearance}
use Rattle.carton_plan_commands.specs.Check.{AreSound, IsDoneOfSound}
use Rattle.carton_plan_commands.specs.Make.{IsMadeText}
use Rattle.carton_setup.proofs.Outcomes.{never_told}
use Rattle.carton_setup.specs.Telling.{done}
use Rattle.carton_setup.specs.declared.refusal.BadFile.{BadFile}
use Rattle.carton_setup.specs.declared.refusal.Rule.TheVariants.{TooLong}
use Rattle.carton_setup.specs.declared.told.Ending.{Ending}
use Rattle.carton_setup.specs.declared.told.Ending.TheVariants.{Done as ToldDone}
use Rattle.carton_setup.specs.declared.told.Told.{Told as ToldText}
use Rattle.carton_tool.proofs.Answering.{own_saying}
use Rattle.carton_tool.proofs.Ends.{is_done}
use Rattle.carton_tool.specs.Answers.{tells}
use Rattle.carton_tool.specs.Files.{AreTold, first_long}
use Rattle.carton_tool.specs.Headline.{asks, and_plan, IsOfSound, TellsMade}
use Rattle.carton_tool.specs.Saying.{status_of, says, IsSaidOf, IsSaidTo, IsSaid, AreFiles}
use Rattle.carton_tool.specs.declared.said.Ended.TheVariants.{Told}
use Rattle.carton_tool.specs.declared.said.Said.{Said}
use Rattle.carton_tool.specs.declared.status.Status.TheVariants.{Done}
use Rattle.carton_words.specs.Commands.{Command, IsCommand, files_of}
use Rattle.carton_words.specs.Words.{a_count}
use Rattle.carton_words.specs.declared.kinds.FileKind.{FileKind}
use Rattle.carton_words.specs.declared.table.Verb.TheVariants.{Check, Clearance, Make}

-- the three files that are told
three_files : (holds : List ℕ → Option (List ℕ)) (dieline job plan d j p : List ℕ) (files : List (List ℕ))
    → holds dieline ≡ Some d → holds job ≡ Some j → holds plan ≡ Some p
    → AreTold holds (and_plan dieline job plan) files → files ≡ d ∷ j ∷ p ∷ []
three_files holds dieline job plan d j p [] e f g told = absurd told
three_files holds dieline job plan d j p (a ∷ []) e f g told = absurd told.1
three_files holds dieline job plan d j p (a ∷ b ∷ []) e f g told = absurd told.1.1
three_files holds dieline job plan d j p (a ∷ b ∷ c ∷ more ∷ others) e f g told = absurd told.1.1.1
three_files holds dieline job plan d j p (a ∷ b ∷ c ∷ []) e f g told =
    let first : a ≡ d = subst (λ o. IfSome o (λ bytes. a ≡ bytes)) e told.0 in
    let second : b ≡ j = subst (λ o. IfSome o (λ bytes. b ≡ bytes)) f told.1.0 in
    let third : c ≡ p = subst (λ o. IfSome o (λ bytes. c ≡ bytes)) g told.1.1.0 in
    λ i. first i ∷ second i ∷ third i ∷ []

-- a command that ends so only where P holds of the bytes of its files and of the text
abbrev pub IsOnly : Ending → Command → (List (List ℕ) → List ℕ → Type 0) → Type 0
IsOnly ending c P = (files : List (List ℕ)) (told : ToldText) → tells c files (Ok told)
    → told.ending ≡ ending → P files told.text

same_ending : (a b : Ending) → Told a ≡ Told b → a ≡ b
same_ending a b e = cc

ended_outcome : (ending : Ending) (c : Command) (files : List (List ℕ)) (said : Said)
    (outcome : Result ToldText BadFile) (P : List (List ℕ) → List ℕ → Type 0) → IsOnly ending c P
    → tells c files outcome → said ≡ says outcome → said.ended ≡ Told ending → P files said.text
ended_outcome ending c files said (Ok told) P only t is so =
    let ended = ap (λ (s : Said). s.ended) is in
    subst (P files) (sym (ap (λ (s : Said). s.text) is))
    (only files told t (same_ending told.ending ending (sym ended ∙ so)))
ended_outcome ending c files said (Err file) P only t is so =
    let ended = ap (λ (s : Said). s.ended) is in absurd (cc)

-- so it holds where that ending is said to the command
pub ended_saying : (ending : Ending) (c : Command) (files : List (List ℕ)) (said : Said)
    (P : List (List ℕ) → List ℕ → Type 0) → IsOnly ending c P → IsSaidTo c files said
    → said.ended ≡ Told ending → P files said.text
ended_saying ending c files said P only h so = by_length (first_long (files_of c) files) h.1
  where
    by_length : (first : Option FileKind)
        → MatchOption first (IsSaidOf c files said)
        (λ kind. said ≡ says (Err (record { kind = kind; rule = TooLong })))
        → P files said.text
    by_length (Some kind) is = let ended = ap (λ (s : Said). s.ended) is in absurd (cc)
    by_length None is = ended_outcome ending c files said is.0 P only is.1 is.2 so

-- a command of which done is told only where the plan is sound
abbrev IsOnlySound : Command → Type 0
IsOnlySound c = (files : List (List ℕ)) (told : ToldText) → tells c files (Ok told) → IsDoneOfSound files told

sound_command : (holds : List ℕ → Option (List ℕ)) (had : ℕ) (words files : List (List ℕ)) (said : Said)
    (c : Command) (dieline job plan d j p : List ℕ)
    → AreFiles holds had words files → IsSaid words files said → status_of said.ended ≡ Done → IsOnlySound c
    → files_of c ≡ and_plan dieline job plan
    → IsCommand words c → holds dieline ≡ Some d → holds job ≡ Some j → holds plan ≡ Some p
    → AreSound (d ∷ j ∷ p ∷ [])
sound_command holds had words files said c dieline job plan d j p are is done only names command e f g =
    subst AreSound
    (three_files holds dieline job plan d j p files e f g
    (subst (λ ns. AreTold holds ns files) names (are.told c command)))
    (ended_saying ToldDone c files said (λ bytes text. AreSound bytes) only
    (own_saying words files c said command is) (is_done said.ended done))

-- where done is told, the bytes of the files are those of a sound plan
pub sound_where_done : (holds : List ℕ → Option (List ℕ)) (had : ℕ) (words files : List (List ℕ))
    (said : Said) → AreFiles holds had words files → IsSaid words files said → status_of said.ended ≡ Done
    → IsOfSound holds words
sound_where_done holds had words files said are is done = λ dieline job plan d j p ask e f g. elim ask [
  | inl command ↦ sound_command holds had words files said (asks Check (and_plan dieline job plan)) dieline
      job plan d j p are is done sound_check refl command e f g
  | inr command ↦ sound_command holds had words files said (asks Clearance (and_plan dieline job plan))
      dieline job plan d j p are is done sound_clearance refl command e f g
]

-- what `make` tells is a made text
made_outcome : (count : ℕ) (said : Said) (outcome : Result ToldText BadFile) (files : List (List ℕ))
    → tells (record { verb = Make; given = a_count count ∷ [] }) files outcome → said ≡ says outcome
    → IsMadeText count said.text
made_outcome count said (Ok told) files t is =
    subst (IsMadeText count) (sym (ap (λ (s : Said). s.text) is)) (made_text count files told t)
made_outcome count said (Err file) files t is =
    absurd (elim t [ inl on ↦ never_told (IsMadeText count) done file on.2 | inr off ↦ off.1 ])

pub made_where_told : (words files : List (List ℕ)) (said : Said) (wrote : List ℕ → Type 0)
    → IsSaid words files said → wrote said.text → TellsMade words wrote
made_where_told words files said wrote is w = λ count command.
    let own = (own_saying words files (record { verb = Make; given = a_count count ∷ [] }) said command
    is).1 in
    (said.text, made_outcome count said own.0 files own.1 own.2, w)
