-- Reads and writes of the lists of links and priorities.
use Rattle.std.proofs.Common.{◌≡◌, ℕ, zero, suc, ◌+◌, ◌<◌, List, [], ◌∷◌, ◌++◌, Option, Some, None, get_or}
use Rattle.std.proofs.Common.{length, replicate, inl, inr, refl, ap, sym, ◌∙◌, arith}
use Rattle.std.proofs.Math.ListN.{set}
use Rattle.std.proofs.lemmas.Bool.{cases_eq}
use Rattle.carton_queue.specs.Waits.{priority_at}
use Rattle.carton_queue.specs.Linked.{part_of}
use Rattle.carton_queue.specs.declared.links.Link.{Link}

module _ (part : Link → ℕ) where
  pub part_get : (xs : List Link) (i : ℕ) (x : Link) → i < length xs
      → part (get_or xs i x) ≡ part_of part xs i
  part_get [] i x l = absurd (omega arith)
  part_get (y ∷ xs) zero x l = refl
  part_get (y ∷ xs) (suc i) x l = part_get xs i x (omega arith)

  pub part_here : (xs : List Link) (n : ℕ) (x : Link) → n < length xs → part_of part (set xs n x) n ≡ part x
  part_here [] n x l = absurd (omega arith)
  part_here (y ∷ xs) zero x l = refl
  part_here (y ∷ xs) (suc n) x l = part_here xs n x (omega arith)

  pub part_rest : (xs : List Link) (n : ℕ) (x : Link) (i : ℕ) → (i ≡ n → ⊥)
      → part_of part (set xs n x) i ≡ part_of part xs i
  part_rest [] n x i o = refl
  part_rest (y ∷ xs) zero x zero o = absurd (o refl)
  part_rest (y ∷ xs) zero x (suc i) o = refl
  part_rest (y ∷ xs) (suc n) x zero o = refl
  part_rest (y ∷ xs) (suc n) x (suc i) o = part_rest xs n x i (λ e. o (ap suc e))

  -- a write that keeps the part at its place
  pub part_kept : (xs : List Link) (n : ℕ) (x : Link) → n < length xs → part x ≡ part_of part xs n → (i : ℕ)
      → part_of part (set xs n x) i ≡ part_of part xs i
  part_kept xs n x l e i =
      let now = part_of part (set xs n x) in
      elim (cases_eq i n) [
        | inl same ↦ ap now same ∙ part_here xs n x l ∙ e ∙ sym (ap (part_of part xs) same)
        | inr o ↦ part_rest xs n x i o
      ]

  -- links whose part is their own slot, counted from a start on, and one more
  pub part_push : (start : ℕ) (xs : List Link) (x : Link)
      → ((i : ℕ) → i < length xs → part_of part xs i ≡ start + i) → part x ≡ start + length xs
      → (i : ℕ) → i < length xs + 1 → part_of part (xs ++ x ∷ []) i ≡ start + i
  part_push start xs x h e i l = elim (cases_eq i (length xs)) [
    | inl same ↦ ap (part_of part (xs ++ x ∷ [])) same ∙ last xs x ∙ e ∙ ap (λ (k : ℕ). start + k) (sym same)
    | inr o ↦ first xs x i (less i (length xs) l o) ∙ h i (less i (length xs) l o)
  ]
    where
      last : (xs : List Link) (x : Link) → part_of part (xs ++ x ∷ []) (length xs) ≡ part x
      last [] x = refl
      last (y ∷ xs) x = last xs x

      first : (xs : List Link) (x : Link) (i : ℕ) → i < length xs
          → part_of part (xs ++ x ∷ []) i ≡ part_of part xs i
      first [] x i l = absurd (omega arith)
      first (y ∷ xs) x zero l = refl
      first (y ∷ xs) x (suc i) l = first xs x i (omega arith)

      less : (i n : ℕ) → i < n + 1 → (i ≡ n → ⊥) → i < n
      less i n l o = omega arith

  -- a place in the second of two lists
  pub part_after : (xs ys : List Link) (n i : ℕ) → length xs ≡ n
      → part_of part (xs ++ ys) (n + i) ≡ part_of part ys i
  part_after xs ys n i e = ap (λ (k : ℕ). part_of part (xs ++ ys) (k + i)) (sym e) ∙ step xs
    where
      step : (zs : List Link) → part_of part (zs ++ ys) (length zs + i) ≡ part_of part ys i
      step [] = ap (part_of part ys) (let e : length {A = Link} [] + i ≡ i = omega arith in e)
      step (z ∷ zs) =
          let e : length (z ∷ zs) + i ≡ suc (length zs + i) = omega arith in
          ap (part_of part (z ∷ (zs ++ ys))) e ∙ step zs

pub at_blank : (room n : ℕ) → priority_at (replicate room None) n ≡ None
at_blank zero n = refl
at_blank (suc room) zero = refl
at_blank (suc room) (suc n) = at_blank room n

pub at_set : (xs : List (Option ℕ)) (n : ℕ) (x : Option ℕ) → n < length xs → priority_at (set xs n x) n ≡ x
at_set [] n x l = absurd (omega arith)
at_set (y ∷ xs) zero x l = refl
at_set (y ∷ xs) (suc n) x l = at_set xs n x (omega arith)

pub at_others : (xs : List (Option ℕ)) (n : ℕ) (x : Option ℕ) (m : ℕ) → (m ≡ n → ⊥)
    → priority_at (set xs n x) m ≡ priority_at xs m
at_others [] n x m o = refl
at_others (y ∷ xs) zero x zero o = absurd (o refl)
at_others (y ∷ xs) zero x (suc m) o = refl
at_others (y ∷ xs) (suc n) x zero o = refl
at_others (y ∷ xs) (suc n) x (suc m) o = at_others xs n x m (λ e. o (ap suc e))

pub at_within : (xs : List (Option ℕ)) (n p : ℕ) → priority_at xs n ≡ Some p → n < length xs
at_within [] n p h = cc
at_within (x ∷ xs) zero p h = omega arith
at_within (x ∷ xs) (suc n) p h = omega (arith, at_within xs n p h)

pub at_get : (xs : List (Option ℕ)) (i : ℕ) (x : Option ℕ) → i < length xs → get_or xs i x ≡ priority_at xs i
at_get [] i x l = absurd (omega arith)
at_get (y ∷ xs) zero x l = refl
at_get (y ∷ xs) (suc i) x l = at_get xs i x (omega arith)

-- a write of what stands there
pub set_same : (xs : List (Option ℕ)) (n : ℕ) (x : Option ℕ) → priority_at xs n ≡ x → set xs n x ≡ xs
set_same [] n x h = refl
set_same (y ∷ xs) zero x h = ap (λ (z : Option ℕ). z ∷ xs) (sym h)
set_same (y ∷ xs) (suc n) x h = ap (λ (zs : List (Option ℕ)). y ∷ zs) (set_same xs n x h)

-- the second of two writes at a place stands
pub set_again : (xs : List (Option ℕ)) (n : ℕ) (x y : Option ℕ) → set (set xs n x) n y ≡ set xs n y
set_again [] n x y = refl
set_again (z ∷ xs) zero x y = refl
set_again (z ∷ xs) (suc n) x y = ap (λ (zs : List (Option ℕ)). z ∷ zs) (set_again xs n x y)
