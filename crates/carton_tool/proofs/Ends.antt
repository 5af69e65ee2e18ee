-- How something was said, by its status.
use Rattle.std.proofs.Common.{◌≡◌, ◌≢◌, ◌⊎◌, inl, inr, refl, ap, ◌∙◌}
use Rattle.carton_setup.specs.declared.told.Ending.TheVariants.{Done as ToldDone, Refused as ToldRefused}
use Rattle.carton_setup.specs.declared.told.Ending.TheVariants.{OutOfTurns as ToldTurns}
use Rattle.carton_tool.specs.Headline.{IsToldOrFault}
use Rattle.carton_tool.specs.Saying.{status_of}
use Rattle.carton_tool.specs.declared.said.Ended.{Ended}
use Rattle.carton_tool.specs.declared.said.Ended.TheVariants.{BadWords, BadInput, Told}
use Rattle.carton_tool.specs.declared.status.Status.{Status}
use Rattle.carton_tool.specs.declared.status.Status.TheVariants.{Done, Refused, BadInput as BadFiles}
use Rattle.carton_tool.specs.declared.status.Status.TheVariants.{BadWords as NoWords, ReadFault, WriteFault}
use Rattle.carton_tool.specs.declared.status.Status.TheVariants.{OutOfTurns, NoMemory}

-- nothing is said after a fault of reading
pub no_read_fault : (e : Ended) → status_of e ≡ ReadFault → ⊥
no_read_fault BadWords is = cc
no_read_fault BadInput is = cc
no_read_fault (Told ToldDone) is = cc
no_read_fault (Told ToldRefused) is = cc
no_read_fault (Told ToldTurns) is = cc

-- nor where memory was wanted
pub no_want : (e : Ended) → status_of e ≡ NoMemory → ⊥
no_want BadWords is = cc
no_want BadInput is = cc
no_want (Told ToldDone) is = cc
no_want (Told ToldRefused) is = cc
no_want (Told ToldTurns) is = cc

pub is_bad_words : (e : Ended) → status_of e ≡ NoWords → e ≡ BadWords
is_bad_words BadWords is = refl
is_bad_words BadInput is = absurd (cc)
is_bad_words (Told ToldDone) is = absurd (cc)
is_bad_words (Told ToldRefused) is = absurd (cc)
is_bad_words (Told ToldTurns) is = absurd (cc)

pub is_bad_input : (e : Ended) → status_of e ≡ BadFiles → e ≡ BadInput
is_bad_input BadWords is = absurd (cc)
is_bad_input BadInput is = refl
is_bad_input (Told ToldDone) is = absurd (cc)
is_bad_input (Told ToldRefused) is = absurd (cc)
is_bad_input (Told ToldTurns) is = absurd (cc)

pub is_done : (e : Ended) → status_of e ≡ Done → e ≡ Told ToldDone
is_done BadWords is = absurd (cc)
is_done BadInput is = absurd (cc)
is_done (Told ToldDone) is = refl
is_done (Told ToldRefused) is = absurd (cc)
is_done (Told ToldTurns) is = absurd (cc)

pub is_refused : (e : Ended) → status_of e ≡ Refused → e ≡ Told ToldRefused
is_refused BadWords is = absurd (cc)
is_refused BadInput is = absurd (cc)
is_refused (Told ToldDone) is = absurd (cc)
is_refused (Told ToldRefused) is = refl
is_refused (Told ToldTurns) is = absurd (cc)

-- a status that is done but for a fault of writing
pub done_or_fault : (status : Status) → (status ≢ WriteFault → status ≡ Done) → IsToldOrFault status
done_or_fault Done h = inl refl
done_or_fault WriteFault h = inr (inr (inr refl))
done_or_fault Refused h = let e : Refused ≡ Done = h (λ e. absurd (cc)) in absurd (cc)
done_or_fault BadFiles h = let e : BadFiles ≡ Done = h (λ e. absurd (cc)) in absurd (cc)
done_or_fault NoWords h = let e : NoWords ≡ Done = h (λ e. absurd (cc)) in absurd (cc)
done_or_fault ReadFault h = inr (inr (inl refl))
done_or_fault OutOfTurns h = let e : OutOfTurns ≡ Done = h (λ e. absurd (cc)) in absurd (cc)
done_or_fault NoMemory h = inr (inl refl)

-- a status that is that of bad words but for a fault of writing
pub bad_or_fault : (status : Status) (e : Ended) → (status ≢ WriteFault → status ≡ status_of e) → e ≡ BadWords
    → (status ≡ NoWords) ⊎ (status ≡ WriteFault) ⊎ (status ≡ NoMemory)
bad_or_fault WriteFault e h is = inr (inl refl)
bad_or_fault Done e h is = inl (h (λ s. absurd (cc)) ∙ ap status_of is)
bad_or_fault Refused e h is = inl (h (λ s. absurd (cc)) ∙ ap status_of is)
bad_or_fault BadFiles e h is = inl (h (λ s. absurd (cc)) ∙ ap status_of is)
bad_or_fault NoWords e h is = inl refl
bad_or_fault ReadFault e h is = inl (h (λ s. absurd (cc)) ∙ ap status_of is)
bad_or_fault OutOfTurns e h is = inl (h (λ s. absurd (cc)) ∙ ap status_of is)
bad_or_fault NoMemory e h is = inr (inr refl)
