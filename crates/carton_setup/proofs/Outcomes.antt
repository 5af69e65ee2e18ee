-- Steps one after the other: what the whole allows, and that its refusals exclude all else where those of its
-- steps do.
use Rattle.std.proofs.Common.{◌≡◌, inl, inr, Option, Some, None, Result, Ok, Err, IfOk, ℕ, List, refl, sym}
use Rattle.std.proofs.Common.{ap, subst, ◌∙◌}
use Rattle.std.specs.Prelude.{⊤, IsErrAnd}
use Rattle.carton_base.specs.Steps.{Gives}
use Rattle.carton_words.specs.declared.kinds.FileKind.{FileKind}
use Rattle.carton_setup.specs.Outcomes.{Outcomes, IsOutcome, ◌>>=◌, gives, values, refusal_of, accepted}
use Rattle.carton_setup.specs.Outcomes.{results, reads, Exclude}
use Rattle.carton_setup.specs.declared.refusal.BadFile.{BadFile}
use Rattle.carton_setup.specs.declared.refusal.Refusal.{Refusal}
use Rattle.carton_setup.specs.declared.refusal.Refusal.TheVariants.{Bad, NoMemory}
use Rattle.carton_setup.specs.declared.refusal.Rule.{Rule}

-- an error, and a value, as results of a known kind
abbrev pub err_of : {E : Type 0} → (X : Type 0) → E → Result X E
err_of X e = Err e

abbrev pub ok_of : {X : Type 0} → X → Result X BadFile
ok_of x = Ok x

abbrev pub came : {X : Type 0} → X → Result X Refusal
came x = Ok x

-- where a step refuses a file, the whole does
pub stops : {X A : Type 0} (P : Outcomes X) (Q : X → Outcomes A) (e : Refusal) → IsOutcome P (Err e)
    → IsOutcome (P >>= Q) (Err e)
stops P Q (Bad bad) h = inr (bad, h, refl)
stops P Q NoMemory h = tt

-- an early return of that error is one of the outcomes
pub passed_up : {A : Type 0} (P : Outcomes A) (e : Refusal) (r : Result A Refusal) → IsErrAnd r (λ y. y ≡ e)
    → IsOutcome P (Err e) → IsOutcome P r
passed_up P e (Ok x) is h = absurd is
passed_up P e (Err y) is h = rw is h

-- from a value that it allows the next step goes on
pub goes_on : {X A : Type 0} (P : Outcomes X) (Q : X → Outcomes A) (x : X) (r : Result A Refusal) → P (Ok x)
    → IsOutcome (Q x) r → IsOutcome (P >>= Q) r
goes_on P Q x (Ok y) p q = inl (x, p, q)
goes_on P Q x (Err (Bad bad)) p q = inl (x, p, q)
goes_on P Q x (Err NoMemory) p q = tt

pub not_bad : {X : Type 0} (x : X) (bad : BadFile) → Ok x ≡ err_of X bad → ⊥
not_bad x bad e = cc

pub same_value : {X : Type 0} (x y : X) → ok_of x ≡ ok_of y → x ≡ y
same_value x y e = cc

-- what the whole gave, it gave from a value of its first step
pub passed : {X A : Type 0} (P : Outcomes X) (Q : X → Outcomes A) (y : A) → (P >>= Q) (Ok y) → (x : X)
    × P (Ok x) × Q x (Ok y)
passed P Q y h = elim h [ inl on ↦ on | inr off ↦ absurd (not_bad y off.0 off.2) ]

-- a step's result, with its error as a refusal, is one of its outcomes
pub accepts : {X E : Type 0} (kind : FileKind) (broken : E → Option Rule) (Is : Result X E → Type 0)
    (r : Result X E) → Is r → IsOutcome (results kind broken Is) (accepted kind broken r)
accepts {X} {E} kind broken Is (Ok x) h = h
accepts {X} {E} kind broken Is (Err e) h = by_refusal (refusal_of kind (broken e)) refl
  where
    by_refusal : (f : Refusal) → refusal_of kind (broken e) ≡ f
        → IsOutcome {A = X} (results kind broken Is) (Err f)
    by_refusal (Bad bad) is = (e, h, is)
    by_refusal NoMemory is = tt

-- an error that the results allow refuses the whole
pub refused_on : {X A E : Type 0} (kind : FileKind) (broken : E → Option Rule) (Is : Result X E → Type 0)
    (Q : X → Outcomes A) (e : E) → Is (err_of X e)
    → IsOutcome (results kind broken Is >>= Q) (accepted kind broken (err_of A e))
refused_on {X} kind broken Is Q e h =
    stops (results kind broken Is) Q (refusal_of kind (broken e)) (accepts kind broken Is (err_of X e) h)

-- the same of a reading
pub reads_so : {X Y E : Type 0} (kind : FileKind) (broken : E → Option Rule) (memory : E) (view : X → Y)
    (read : Result Y E) (r : Result X E) → Gives memory view r read
    → IsOutcome (reads {X = X} kind broken memory view read) (accepted kind broken r)
reads_so kind broken memory view read r h = accepts kind broken (λ x. Gives memory view x read) r h

-- the same where it was asked of bytes that are those of a text, and came of accepting it
pub reads_of : {X Y E : Type 0} (kind : FileKind) (broken : E → Option Rule) (memory : E) (view : X → Y)
    (text : List ℕ → Result Y E)
    (asked bytes : List ℕ) → asked ≡ bytes → (r : Result X E) → Gives memory view r (text asked)
    → (taken : Result X Refusal) → taken ≡ accepted kind broken r
    → IsOutcome (reads kind broken memory view (text bytes)) taken
reads_of kind broken memory view text asked bytes same r h taken is =
    subst (λ b. IsOutcome (reads kind broken memory view (text b)) taken) same
    (subst (IsOutcome (reads kind broken memory view (text asked))) (sym is)
    (reads_so kind broken memory view (text asked) r h))

-- what holds of the value holds of it still
pub kept : {X E : Type 0} (kind : FileKind) (broken : E → Option Rule) (P : X → Type 0) (r : Result X E)
    → IfOk r P → IfOk (accepted kind broken r) P
kept kind broken P (Ok x) h = h
kept kind broken P (Err e) h = tt

pub kept_in : {X E : Type 0} (kind : FileKind) (broken : E → Option Rule) (P : X → Type 0) (r : Result X E)
    → IfOk r P
    → (taken : Result X Refusal) → taken ≡ accepted kind broken r → IfOk taken P
kept_in kind broken P r h taken is = subst (λ t. IfOk t P) (sym is) (kept kind broken P r h)

pub turned : {A : Type 0} (P Q : Outcomes A) → Exclude P Q → Exclude Q P
turned P Q ex = record { first = ex.second; second = ex.first }

same_bad : {X : Type 0} (a b : BadFile) → err_of X a ≡ err_of X b → a ≡ b
same_bad a b e = cc

one_way : {X A : Type 0} (P P' : Outcomes X) (Q R : X → Outcomes A) → Exclude P P'
    → ((x y : X) → P (Ok x) → P' (Ok y) → (bad : BadFile) (outcome : Result A BadFile) → Q x (Err bad)
    → R y outcome → outcome ≡ Err bad)
    → (bad : BadFile) (outcome : Result A BadFile) → (P >>= Q) (Err bad) → (P' >>= R) outcome
    → outcome ≡ Err bad
one_way {X} {A} P P' Q R ex next bad outcome h k = elim h [
  | inl on ↦ elim k [
    | inl on' ↦ next on.0 on'.0 on.1 on'.1 bad outcome on.2 on'.2
    | inr off' ↦ absurd (not_bad on.0 off'.0 (ex.second off'.0 (Ok on.0) off'.1 on.1))
  ]
  | inr off ↦ elim k [
    | inl on' ↦ absurd (not_bad on'.0 off.0 (ex.first off.0 (Ok on'.0) off.1 on'.1))
    | inr off' ↦
        let same = same_bad {X = X} off'.0 off.0 (ex.first off.0 (Err off'.0) off.1 off'.1) in
        off'.2 ∙ ap (λ (b : BadFile). err_of A b) same ∙ sym off.2
  ]
]

-- two ways of steps exclude each other's refusals where their steps do
pub excludes_after : {X A : Type 0} (P P' : Outcomes X) (Q R : X → Outcomes A) → Exclude P P'
    → ((x y : X) → P (Ok x) → P' (Ok y) → Exclude (Q x) (R y)) → Exclude (P >>= Q) (P' >>= R)
excludes_after P P' Q R ex next = record {
  first = one_way P P' Q R ex (λ x y p p'. (next x y p p').first);
  second = one_way P' P R Q (turned P P' ex) (λ y x p' p. (next x y p p').second);
}

-- none refuses a file
pub no_refusals : {A : Type 0} (P Q : Outcomes A) → ((bad : BadFile) → P (Err bad) → ⊥)
    → ((bad : BadFile) → Q (Err bad) → ⊥) → Exclude P Q
no_refusals P Q none none' =
    record { first = λ bad o h k. absurd (none bad h); second = λ bad o h k. absurd (none' bad h) }

-- nothing is taken, so none is refused
pub excludes_nothing : {A : Type 0} {Is : A → Type 0} → Exclude (values Is) (values Is)
excludes_nothing {A} {Is} = no_refusals (values Is) (values Is) (λ bad h. h) (λ bad h. h)

pub never_after : {X A : Type 0} (P : Outcomes X) (Q : X → Outcomes A) → ((bad : BadFile) → P (Err bad) → ⊥)
    → ((x : X) (bad : BadFile) → Q x (Err bad) → ⊥) → (bad : BadFile) → (P >>= Q) (Err bad) → ⊥
never_after P Q none next bad h = elim h [ inl on ↦ next on.0 bad on.2 | inr off ↦ none off.0 off.1 ]

-- the value alone is no refusal
pub never_given : {A : Type 0} (x : A) (bad : BadFile) → Err bad ≡ ok_of x → ⊥
never_given x bad e = cc

pub excludes_given : {A : Type 0} (a b : A) → Exclude (gives a) (gives b)
excludes_given a b = no_refusals (gives a) (gives b) (never_given a) (never_given b)

-- what is told of a value refuses no file
pub never_told : {A B : Type 0} (Is : A → Type 0) (told : A → B) (bad : BadFile)
    → (values Is >>= λ x. gives (told x)) (Err bad) → ⊥
never_told Is told = never_after (values Is) (λ x. gives (told x)) (λ bad h. h) (λ x. never_given (told x))

excludes_told : {A B : Type 0} (Is Are : A → Type 0) (told other : A → B)
    → Exclude (values Is >>= λ x. gives (told x)) (values Are >>= λ x. gives (other x))
excludes_told Is Are told other =
    no_refusals (values Is >>= λ x. gives (told x)) (values Are >>= λ x. gives (other x)) (never_told Is told)
    (never_told Are other)

-- where what is taken excludes all else, so does what is told of values that are found for it
pub excludes_found : {G X A : Type 0} (P : Outcomes G) → Exclude P P
    → (Is : G → X → Type 0) (told : G → X → A)
    → Exclude (P >>= λ g. values (Is g) >>= λ x. gives (told g x)) (P >>= λ g. values (Is g) >>= λ x.
    gives (told g x))
excludes_found P ex Is told =
    excludes_after P P (λ g. values (Is g) >>= λ x. gives (told g x))
    (λ g. values (Is g) >>= λ x. gives (told g x)) ex
    (λ g h is is'. excludes_told (Is g) (Is h) (told g) (told h))

-- a result that is told: a value, or an error that is the breach of a rule
abbrev pub IsRuled : {X E : Type 0} → (E → Option Rule) → Result X E → Type 0
IsRuled broken (Ok x) = ⊤
IsRuled broken (Err e) = (rule : Rule) × (broken e ≡ Some rule)

has_rule : {E : Type 0} (kind : FileKind) (broken : E → Option Rule) (e : E) (bad : BadFile)
    → refusal_of kind (broken e) ≡ Bad bad → (rule : Rule) × (broken e ≡ Some rule)
has_rule kind broken e bad is = by_rule (broken e) is
  where
    by_rule : (o : Option Rule) → refusal_of kind o ≡ Bad bad → (rule : Rule) × (o ≡ Some rule)
    by_rule None is = cc
    by_rule (Some rule) is = (rule, refl)

some_bad : (a b : BadFile) → Bad a ≡ Bad b → a ≡ b
some_bad a b e = cc

same_error : {X E : Type 0} (e f : E) → err_of X e ≡ err_of X f → e ≡ f
same_error e f is = cc

-- each told result of one is the told error of the other
abbrev pub Forces : {X E : Type 0} → (E → Option Rule) → (Result X E → Type 0) → (Result X E → Type 0)
    → Type 0
Forces {X} {E} broken Is Are = (e : E) (r : Result X E) → IsRuled broken (err_of X e) → Is (Err e)
    → IsRuled broken r → Are r → r ≡ Err e

forces_one : {X E : Type 0} (kind : FileKind) (broken : E → Option Rule) (Is Are : Result X E → Type 0)
    → Forces broken Is Are
    → (bad : BadFile) (outcome : Result X BadFile) → results kind broken Is (Err bad)
    → results kind broken Are outcome → outcome ≡ Err bad
forces_one {X} {E} kind broken Is Are one bad (Ok y) h k =
    let same = one h.0 (Ok y) (has_rule kind broken h.0 bad h.2) h.1 tt k in
    cc
forces_one {X} {E} kind broken Is Are one bad (Err other) h k =
    let same = same_error {X = X} k.0 h.0
    (one h.0 (Err k.0) (has_rule kind broken h.0 bad h.2) h.1 (has_rule kind broken k.0 other k.2) k.1) in
    ap (λ (b : BadFile). err_of X b)
    (some_bad other bad (sym k.2 ∙ ap (λ (e : E). refusal_of kind (broken e)) same ∙ h.2))

pub excludes_results : {X E : Type 0} (kind : FileKind) (broken : E → Option Rule)
    (Is Are : Result X E → Type 0) → Forces broken Is Are → Forces broken Are Is
    → Exclude (results kind broken Is) (results kind broken Are)
excludes_results kind broken Is Are one back =
    record { first = forces_one kind broken Is Are one; second = forces_one kind broken Are Is back }

-- what is told of a reading that refuses is what the rules give
pub told_error : {X Y E : Type 0} (broken : E → Option Rule) (memory : E) (view : X → Y) (read : Result Y E)
    (e : E) → broken memory ≡ None → (rule : Rule) × (broken e ≡ Some rule)
    → Gives {X = X} memory view (Err e) read → read ≡ Err e
told_error broken memory view read e none ruled given =
    given (λ is. let same = ap broken is in let some = ruled.1 in cc)

forces_read : {X Y E : Type 0} (broken : E → Option Rule) (memory : E) (view : X → Y) (read : Result Y E)
    → broken memory ≡ None
    → Forces broken (λ r. Gives {X = X} memory view r read) (λ r. Gives {X = X} memory view r read)
forces_read {X} broken memory view read none e (Ok x) ruled given told other =
    let first = told_error {X = X} broken memory view read e none ruled given in cc
forces_read {X} broken memory view read none e (Err f) ruled given told other =
    let first = told_error {X = X} broken memory view read e none ruled given in
    let second = told_error {X = X} broken memory view read f none told other in
    let same : f ≡ e = cc in
    ap (λ x. err_of X x) same

-- a text's reading excludes all else where it refuses
pub excludes_reads : {X Y E : Type 0} (kind : FileKind) (broken : E → Option Rule) (memory : E) (view : X → Y)
    (read : Result Y E) → broken memory ≡ None
    → Exclude (reads {X = X} kind broken memory view read) (reads {X = X} kind broken memory view read)
excludes_reads {X} kind broken memory view read none =
    let IsRead = λ (r : Result X _). Gives memory view r read in
    excludes_results kind broken IsRead IsRead (forces_read broken memory view read none)
    (forces_read broken memory view read none)
