-- What may come of steps that look at files: a value, or a file that is refused.
use Rattle.std.specs.Prelude.{◌≡◌, ◌⊎◌, ⊤, Option, Some, None, Result, Ok, Err}
use Rattle.carton_base.specs.Steps.{Gives}
use Rattle.carton_words.specs.declared.kinds.FileKind.{FileKind}
use Rattle.carton_setup.specs.declared.refusal.BadFile.{BadFile}
use Rattle.carton_setup.specs.declared.refusal.Refusal.{Refusal}
use Rattle.carton_setup.specs.declared.refusal.Refusal.TheVariants.{Bad, NoMemory}
use Rattle.carton_setup.specs.declared.refusal.Rule.{Rule}

-- the outcomes that a step allows
abbrev pub Outcomes : Type 0 → Type 1
Outcomes A = Result A BadFile → Type 0

-- what came of a step is one that it allows, unless memory was wanted
abbrev pub IsOutcome : {A : Type 0} → Outcomes A → Result A Refusal → Type 0
IsOutcome P (Ok x) = P (Ok x)
IsOutcome P (Err (Bad bad)) = P (Err bad)
IsOutcome P (Err NoMemory) = ⊤

infixl 10 ◌>>=◌
-- the next step goes on from a value that the first allows; where the first refuses a file, the whole does
abbrev pub ◌>>=◌ : {X A : Type 0} → Outcomes X → (X → Outcomes A) → Outcomes A
(P >>= Q) outcome = ((x : _) × P (Ok x) × Q x outcome) ⊎ ((bad : BadFile) × P (Err bad) × (outcome ≡ Err bad))

-- this value alone
abbrev pub gives : {A : Type 0} → A → Outcomes A
gives x outcome = outcome ≡ Ok x

-- each value of which this holds, and no refusal
abbrev pub values : {A : Type 0} → (A → Type 0) → Outcomes A
values Is (Ok x) = Is x
values Is (Err bad) = ⊥

-- the refusal of a file of this kind that breaks the rule; without a rule memory was wanted
abbrev pub refusal_of : FileKind → Option Rule → Refusal
refusal_of kind None = NoMemory
refusal_of kind (Some rule) = Bad (record { kind = kind; rule = rule })

-- what a step on a file of this kind gave, with its error as a refusal
abbrev pub accepted : {X E : Type 0} → FileKind → (E → Option Rule) → Result X E → Result X Refusal
accepted kind broken (Ok x) = Ok x
accepted kind broken (Err e) = Err (refusal_of kind (broken e))

-- the outcomes of a step on a file of this kind that may give such results
abbrev pub results : {X E : Type 0} → FileKind → (E → Option Rule) → (Result X E → Type 0) → Outcomes X
results kind broken Is (Ok x) = Is (Ok x)
results kind broken Is (Err bad) = (e : _) × Is (Err e) × (refusal_of kind (broken e) ≡ Bad bad)

-- the outcomes of reading a text of this kind, of which the rules give this, seen by view
abbrev pub reads : {X Y E : Type 0} → FileKind → (E → Option Rule) → E → (X → Y) → Result Y E → Outcomes X
reads kind broken memory view read = results kind broken (λ r. Gives memory view r read)

-- where one refuses a file, the other allows nothing else, and the other way round
pub record Exclude {A : Type 0} (P Q : Outcomes A) : Type 0 where
  pub first : (bad : BadFile) (outcome : Result A BadFile) → P (Err bad) → Q outcome → outcome ≡ Err bad
  pub second : (bad : BadFile) (outcome : Result A BadFile) → Q (Err bad) → P outcome → outcome ≡ Err bad
