-- Answers of tests, and loops over a list that look for an element.
use Rattle.std.proofs.Common.{◌≡◌, ℕ, ◌+◌, ◌<◌, ◌≤◌, ◌||◌, Bool, true, false, IsTrue, ◌↔◌, List, length}
use Rattle.std.proofs.Common.{get_or, refl, sym, ◌∙◌, subst, arith, below_more}
use Rattle.std.proofs.lemmas.Bool.{false≢true}
use Rattle.std.proofs.lemmas.List.{get_or_default}
use Rattle.std.specs.Prelude.{Any, All}

pub yes : {Q : Type 0} → Q → IsTrue true ↔ Q
yes q = (λ _. q, λ _. refl)

pub no : {Q : Type 0} → ¬ Q → IsTrue false ↔ Q
no n = (λ e. absurd (false≢true e), λ q. absurd (n q))

pub at_yes : {Q : Type 0} {b : Bool} → b ≡ true → IsTrue b ↔ Q → Q
at_yes e h = h.0 e

pub at_no : {Q : Type 0} {b : Bool} → b ≡ false → IsTrue b ↔ Q → ¬ Q
at_no e h = λ q. false≢true (sym e ∙ h.1 q)

-- a test that stands for another fact
pub same_test : {P Q R : Type 0} → P ↔ Q → (Q → R) → (R → Q) → P ↔ R
same_test h f g = (λ p. f (h.0 p), λ r. h.1 (g r))

-- none of the first elements has P
abbrev pub NoneBelow : {X : Type 0} → (X → Type 0) → List X → ℕ → Type 0
NoneBelow {X} P xs i = (j : ℕ) (d : X) → j < i → j < length xs → ¬ (P (get_or xs j d))

pub none_more : {X : Type 0} (P : X → Type 0) (xs : List X) (i : ℕ) (x : X) → i < length xs
    → x ≡ get_or xs i x → ¬ (P x) → NoneBelow P xs i → NoneBelow P xs (i + 1)
none_more {X} P xs i x h e n below = λ j d k l p.
    let here : (d : X) → i < length xs → ¬ (P (get_or xs i d)) =
    λ d l p. n (subst P (get_or_default xs i d x h ∙ sym e) p) in
    below_more (λ j. (d : X) → j < length xs → ¬ (P (get_or xs j d))) i (λ j k d l. below j d k l) here j k d
    l p

pub any_at : {X : Type 0} (P : X → Type 0) (xs : List X) (i : ℕ) (x : X) → i < length xs → x ≡ get_or xs i x
    → P x → Any P xs
any_at P xs i x h e p = (i, x, h, sym e, p)

pub none_any : {X : Type 0} (P : X → Type 0) (xs : List X) (i : ℕ) → length xs ≤ i → NoneBelow P xs i
    → ¬ (Any P xs)
none_any P xs i h below = λ a. below a.0 a.1 (omega arith) a.2 (subst P (sym a.3) a.4)

-- the same where the element is read at a default
pub none_more_read : {X : Type 0} (P : X → Type 0) (xs : List X) (i : ℕ) (d : X) → i < length xs
    → ¬ (P (get_or xs i d)) → NoneBelow P xs i → NoneBelow P xs (i + 1)
none_more_read P xs i d h n below =
    none_more P xs i (get_or xs i d) h (get_or_default xs i d (get_or xs i d) h) n below

pub any_read : {X : Type 0} (P : X → Type 0) (xs : List X) (i : ℕ) (d : X) → i < length xs → P (get_or xs i d)
    → Any P xs
any_read P xs i d h p = any_at P xs i (get_or xs i d) h (get_or_default xs i d (get_or xs i d) h) p

-- whether one of the first elements has P, where a loop looks at all of them
abbrev pub AnyBelow : {X : Type 0} → (X → Type 0) → List X → ℕ → Bool → Type 0
AnyBelow {X} P xs i found = (IsTrue found → Any P xs) × (found ≡ false → NoneBelow P xs i)

pub any_start : {X : Type 0} (P : X → Type 0) (xs : List X) → AnyBelow P xs 0 false
any_start P xs = (λ t. absurd (false≢true t), λ f j d below. absurd (omega (arith, below)))

pub any_more : {X : Type 0} (P : X → Type 0) (xs : List X) (i : ℕ) (d : X) (found here : Bool) → i < length xs
    → IsTrue here ↔ P (get_or xs i d) → AnyBelow P xs i found → AnyBelow P xs (i + 1) (found || here)
any_more P xs i d true here lt is h = (λ t. h.0 refl, λ f. absurd (false≢true (sym f)))
any_more P xs i d false true lt is h =
    (λ t. any_read P xs i d lt (is.0 refl), λ f. absurd (false≢true (sym f)))
any_more P xs i d false false lt is h =
    (λ t. absurd (false≢true t), λ f. none_more_read P xs i d lt (at_no refl is) (h.1 refl))

pub any_known : {X : Type 0} (P : X → Type 0) (xs : List X) (i : ℕ) (found : Bool) → length xs ≤ i
    → AnyBelow P xs i found → IsTrue found ↔ Any P xs
any_known P xs i true le h = (h.0, λ a. refl)
any_known P xs i false le h = (h.0, λ a. absurd (none_any P xs i le (h.1 refl) a))

-- each of the first elements has P
abbrev pub AllBelow : {X : Type 0} → (X → Type 0) → List X → ℕ → Type 0
AllBelow {X} P xs i = (j : ℕ) (d : X) → j < i → j < length xs → P (get_or xs j d)

pub all_more : {X : Type 0} (P : X → Type 0) (xs : List X) (i : ℕ) (x : X) → i < length xs → x ≡ get_or xs i x
    → P x → AllBelow P xs i → AllBelow P xs (i + 1)
all_more {X} P xs i x h e p below = λ j d k l.
    let here : (d : X) → i < length xs → P (get_or xs i d) =
    λ d l. subst P (e ∙ get_or_default xs i x d h) p in
    below_more (λ j. (d : X) → j < length xs → P (get_or xs j d)) i (λ j k d l. below j d k l) here j k d l

pub all_more_read : {X : Type 0} (P : X → Type 0) (xs : List X) (i : ℕ) (d : X) → i < length xs
    → P (get_or xs i d) → AllBelow P xs i → AllBelow P xs (i + 1)
all_more_read P xs i d h p below = all_more P xs i (get_or xs i d) h (get_or_default xs i d (get_or xs i d) h)
    p below

pub all_end : {X : Type 0} (P : X → Type 0) (xs : List X) (i : ℕ) → length xs ≤ i → AllBelow P xs i → All P xs
all_end P xs i h below = λ j d k. below j d (omega arith) k

-- one element more, where it has P at every default
pub below_more_all : {X : Type 0} (P : X → Type 0) (xs : List X) (i : ℕ) → ((d : X) → P (get_or xs i d))
    → AllBelow P xs i → AllBelow P xs (i + 1)
below_more_all {X} P xs i p below = λ j d k l. below_more (λ j. (d : X) → j < length xs → P (get_or xs j d)) i
    (λ j k d l. below j d k l) (λ d l. p d) j k d l

-- what holds of each element holds of the one that was read
pub at_item : {X : Type 0} (P : X → Type 0) (xs : List X) (i : ℕ) (x : X) → i < length xs → x ≡ get_or xs i x
    → All P xs → P x
at_item P xs i x h e all = subst P (sym e) (all i x h)
