-- Rules one after the other, of which the first that fails answers with its error.
use Rattle.std.specs.Prelude.{◌≡◌, ◌≢◌, ℕ, ◌+◌, Bool, true, false, List, [], ◌∷◌, Result, Ok, Err}

infixl 10 ◌>>=◌
-- what the next rules make of what the earlier ones gave
abbrev pub ◌>>=◌ : {A B E : Type 0} → Result A E → (A → Result B E) → Result B E
(Ok x) >>= f = f x
(Err e) >>= f = Err e

-- e where the test holds
abbrev pub refuse_if : {E : Type 0} → Bool → E → Result Bool E
refuse_if true e = Err e
refuse_if false e = Ok true

-- what a function returned, seen by view, is what the rules give, unless it returned the error for want of
-- memory
abbrev pub Gives : {X Y E : Type 0} → E → (X → Y) → Result X E → Result Y E → Type 0
Gives memory view (Ok x) rules = rules ≡ Ok (view x)
Gives memory view (Err e) rules = e ≢ memory → rules ≡ Err e

-- the entries of a list from the i-th on, each by the rules of an entry, which are told its place
unfoldable pub entries_from : {D A E : Type 0} → (ℕ → D → Result A E) → ℕ → List D → Result (List A) E
entries_from entry i [] = Ok []
entries_from entry i (d ∷ ds) = do
  x ← entry i d
  xs ← entries_from entry (i + 1) ds
  Ok (x ∷ xs)
