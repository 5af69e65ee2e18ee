-- The words and the bytes of the files that they name determine the text and the status.
use Rattle.std.proofs.Common.{◌≡◌, ℕ, ◌⊎◌, inl, inr, List, sym, ◌∙◌, ap, subst, Result, Ok, Err, Option, Some}
use Rattle.std.proofs.Common.{None}
use Rattle.std.specs.Prelude.{MatchOption}
use Rattle.carton_setup.specs.declared.refusal.BadFile.{BadFile}
use Rattle.carton_setup.specs.declared.refusal.Rule.TheVariants.{TooLong}
use Rattle.carton_setup.specs.declared.told.Told.{Told}
use Rattle.carton_tool.proofs.Ends.{is_bad_input}
use Rattle.carton_tool.proofs.Commands.{excludes_by, one_by}
use Rattle.carton_tool.specs.Answers.{tells, IsFunction}
use Rattle.carton_tool.specs.Files.{first_long}
use Rattle.carton_tool.specs.Saying.{status_of, says, IsSaidOf, IsSaidTo, IsSaid, IsDetermined}
use Rattle.carton_tool.specs.declared.said.Ended.TheVariants.{BadInput}
use Rattle.carton_tool.specs.declared.said.Said.{Said}
use Rattle.carton_words.proofs.Commands.{one_command}
use Rattle.carton_words.specs.Commands.{Command, IsCommand, files_of}
use Rattle.carton_words.specs.declared.kinds.FileKind.{FileKind}

-- what is said of an allowed outcome is one, where the command tells one text alone or a file is refused
one_of : (c : Command) (files : List (List ℕ)) (a b : Said) → IsFunction c.verb ⊎ (a.ended ≡ BadInput)
    → IsSaidOf c files a → IsSaidOf c files b → a ≡ b
one_of c files a b which h k = elim which [
  | inl is ↦ h.2 ∙ ap says (one_by c.verb c files h.0 k.0 is h.1 k.1) ∙ sym k.2
  | inr bad ↦ by_outcome h.0 h.1 h.2 bad
]
  where
    by_outcome : (outcome : Result Told BadFile) → tells c files outcome → a ≡ says outcome
        → a.ended ≡ BadInput → a ≡ b
    by_outcome (Ok told) t is bad = let same = ap (λ (s : Said). s.ended) is in absurd (cc)
    by_outcome (Err file) t is bad =
        is ∙ sym (k.2 ∙ ap says ((excludes_by c.verb c files).first file k.0 t k.1))

one_to : (c : Command) (files : List (List ℕ)) (a b : Said) → IsFunction c.verb ⊎ (a.ended ≡ BadInput)
    → IsSaidTo c files a → IsSaidTo c files b → a ≡ b
one_to c files a b which h k = by_length (first_long (files_of c) files) h.1 k.1
  where
    Here : Option FileKind → Said → Type 0
    Here first said =
        MatchOption first (IsSaidOf c files said)
        (λ kind. said ≡ says (Err (record { kind = kind; rule = TooLong })))

    by_length : (first : Option FileKind) → Here first a → Here first b → a ≡ b
    by_length (Some kind) h k = h ∙ sym k
    by_length None h k = one_of c files a b which h k

one_said : (words files : List (List ℕ)) (a b : Said)
    → ((c : Command) → IsCommand words c → IsFunction c.verb) ⊎ (a.ended ≡ BadInput) → IsSaid words files a
    → IsSaid words files b → a ≡ b
one_said words files a b which h k = elim h [
  | inl none ↦ elim k [ inl none' ↦ none.1 ∙ sym none'.1 | inr found ↦ absurd (none.0 found.0 found.1) ]
  | inr found ↦ elim k [
    | inl none ↦ absurd (none.0 found.0 found.1)
    | inr found' ↦
        one_to found.0 files a b (elim which [ inl is ↦ inl (is found.0 found.1) | inr bad ↦ inr bad ])
        found.2
        (subst (λ c. IsSaidTo c files b) (one_command words found'.0 found.0 found'.1 found.1) found'.2)
  ]
]

pub determined : (words : List (List ℕ)) → IsDetermined words
determined words = λ files text other status another which h k.
    let same = one_said words files h.0 k.0
    (elim which [ inl is ↦ inl is | inr bad ↦ inr (is_bad_input h.0.ended (sym h.3 ∙ bad)) ]) h.1 k.1 in (
      h.2 ∙ ap (λ (s : Said). s.text) same ∙ sym k.2,
      h.3 ∙ ap (λ (s : Said). status_of s.ended) same
          ∙ sym k.3,
    )
