-- A list after a push, and after a write.
use Rattle.std.proofs.Common.{◌≡◌, ℕ, zero, suc, ◌<◌, List, [], ◌∷◌, ◌++◌, Some, slice_get, length, refl, ap}
use Rattle.std.proofs.Common.{arith}
use Rattle.std.proofs.Math.ListN.{set}
use Rattle.carton_search.specs.declared.known.Entry.{Entry}
use Rattle.carton_search.specs.Known.{Changed}
use Rattle.carton_search.proofs.Lists.{get_last}

pub push_changed : (es : List Entry) (y : Entry) → Changed es (es ++ y ∷ []) (length es) y
push_changed es y = record { at = get_last es y; others = others es }
  where
    others : (xs : List Entry) (i : ℕ) → (i ≡ length xs → ⊥) → slice_get (xs ++ y ∷ []) i ≡ slice_get xs i
    others [] zero n = absurd (n refl)
    others [] (suc i) n = refl
    others (x ∷ xs) zero n = refl
    others (x ∷ xs) (suc i) n = others xs i (λ e. n (ap suc e))

pub set_changed : (es : List Entry) (j : ℕ) (y : Entry) → j < length es → Changed es (set es j y) j y
set_changed es j y less = record { at = at es j less; others = others es j }
  where
    at : (xs : List Entry) (i : ℕ) → i < length xs → slice_get (set xs i y) i ≡ Some y
    at [] i l = absurd (omega arith)
    at (x ∷ xs) zero l = refl
    at (x ∷ xs) (suc i) l = at xs i (omega arith)

    others : (xs : List Entry) (j i : ℕ) → (i ≡ j → ⊥) → slice_get (set xs j y) i ≡ slice_get xs i
    others [] j i n = refl
    others (x ∷ xs) zero zero n = absurd (n refl)
    others (x ∷ xs) zero (suc i) n = refl
    others (x ∷ xs) (suc j) zero n = refl
    others (x ∷ xs) (suc j) (suc i) n = others xs j i (λ e. n (ap suc e))
