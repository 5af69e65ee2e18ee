-- Blank entries that are written, and entries that are set.
use Rattle.std.proofs.Common.{◌≡◌, ℕ, zero, suc, ◌-◌, ◌<◌, List, [], ◌∷◌, ◌++◌, length, replicate, ap, sym}
use Rattle.std.proofs.Common.{◌∙◌, arith}
use Rattle.std.proofs.Math.ListN.{set, length-set}
use Rattle.std.proofs.lemmas.List.{set-append_left}
use Rattle.carton_queue.specs.Blanks.{filled}

module _ {A : Type 0} (blank : A) where
  -- one entry more is written, and the list stays
  pub filled_push : (room : ℕ) (xs : List A) → length xs < room → filled room blank (xs ++ blank ∷ [])
      ≡ filled room blank xs
  filled_push zero xs l = absurd (omega arith)
  filled_push (suc room) [] l =
      let more : suc room - length (blank ∷ []) ≡ room = omega arith in
      let all : suc room - length {A = A} [] ≡ suc room = omega arith in
      ap (λ (k : ℕ). blank ∷ replicate k blank) more ∙ sym (ap (λ (k : ℕ). replicate k blank) all)
  filled_push (suc room) (x ∷ xs) l = cons (xs ++ blank ∷ [])
      ∙ ap (λ (ys : List A). x ∷ ys) (filled_push room xs (omega (arith, l))) ∙ sym (cons xs)
    where
      cons : (ys : List A) → filled (suc room) blank (x ∷ ys) ≡ x ∷ filled room blank ys
      cons ys = ap (λ (k : ℕ). x ∷ (ys ++ replicate k blank)) (omega arith)

  -- an entry that is written is set
  pub filled_set : (room : ℕ) (xs : List A) (i : ℕ) (x : A) → i < length xs → filled room blank (set xs i x)
      ≡ set (filled room blank xs) i x
  filled_set room xs i x l = ap (λ (k : ℕ). set xs i x ++ replicate (room - k) blank) (length-set xs i x)
      ∙ sym (set-append_left xs (replicate (room - length xs) blank) i x l)
