-- Reading the lines of a text one after the other, as a loop does.
use Rattle.std.proofs.Common.{◌≡◌, ℕ, List, [], ◌∷◌, Result, Ok, Err, refl, sym, ◌∙◌, subst}
use Rattle.carton_base.proofs.Steps.{both, same_ok}
use Rattle.carton_lines.specs.declared.fault.Fault.{Fault}
use Rattle.carton_lines.specs.declared.fault.LineError.{LineError}
use Rattle.carton_lines.specs.Lines.{next_number, told_at}
use Rattle.carton_lines.specs.Readings.{read_lines}

module _ {A : Type 0} (step : A → ℕ → List ℕ → Result A LineError) where
  -- the next line was read
  pub goes_on : (a b : A) (n : ℕ) (lines : List (List ℕ)) (line : List ℕ) (rest : List (List ℕ))
      (total : Result A LineError) → lines ≡ line ∷ rest → step a (next_number n) line ≡ Ok b
      → read_lines step a n lines ≡ total → read_lines step b (next_number n) rest ≡ total
  unfolding read_lines
  goes_on a b n lines line rest total e h so_far =
      let one : read_lines step a n lines ≡ read_lines step b (next_number n) rest = rw (e, h) refl in
      sym one ∙ so_far

  -- the next line fails a rule, so the reading ends with it
  pub ends : (a : A) (fault : LineError) (n : ℕ) (lines : List (List ℕ)) (line : List ℕ)
      (rest : List (List ℕ)) (total : Result A LineError) → lines ≡ line ∷ rest
      → step a (next_number n) line ≡ Err fault → read_lines step a n lines ≡ total → total ≡ Err fault
  unfolding read_lines
  ends a fault n lines line rest total e h so_far =
      let one : read_lines step a n lines ≡ Err fault = rw (e, h) refl in
      sym so_far ∙ one

  -- no line is left
  pub is_done : (a : A) (n : ℕ) (lines : List (List ℕ)) (total : Result A LineError) → lines ≡ []
      → read_lines step a n lines ≡ total → total ≡ Ok a
  unfolding read_lines
  is_done a n lines total e so_far =
      let one : read_lines step a n lines ≡ Ok a = rw e refl in
      sym so_far ∙ one

  -- what each step keeps, the reading keeps
  pub all_kept : (P : A → Type 0)
      → ((a b : A) (n : ℕ) (line : List ℕ) → P a → step a n line ≡ Ok b → P b)
      → (a b : A) (n : ℕ) (lines : List (List ℕ)) → P a → read_lines step a n lines ≡ Ok b → P b
  unfolding read_lines
  all_kept P kept a b n [] p h = subst P (same_ok a b _ refl h) p
  all_kept P kept a b n (line ∷ lines) p h =
      let c = both (step a (next_number n) line) _ b h in
      all_kept P kept c.0 b (next_number n) lines (kept a c.0 (next_number n) line p c.1) c.2

pub told_well : {A : Type 0} (n : ℕ) (r : Result A Fault) (x : A) → told_at n r ≡ Ok x → r ≡ Ok x
told_well n (Ok y) x h = cc
told_well n (Err fault) x h = cc
