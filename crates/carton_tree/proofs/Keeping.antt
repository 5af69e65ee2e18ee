-- What a carton keeps, one panel more.
use Rattle.std.proofs.Common.{◌≡◌, ℕ, ◌+◌, ◌<◌, inl, inr, List, [], ◌∷◌, ◌++◌, length, get_or}
use Rattle.std.proofs.Common.{sym, ◌∙◌, subst, arith}
use Rattle.std.proofs.lemmas.Bool.{cases_lt}
use Rattle.std.proofs.lemmas.List.{get_or_append_left, get_or_push}
use Rattle.carton_tree.specs.declared.start.Start.{Start}
use Rattle.carton_tree.specs.Cartons.{IsStart, AreStarts}
use Rattle.carton_base.specs.declared.numbers.Triple.{Triple}

-- a list that has P at each place has it at one place more
pub at_more : {X : Type 0} (P : ℕ → X → Type 0) (xs : List X) (x : X) (n : ℕ) → length xs ≡ n → P n x
    → ((p : ℕ) (d : X) → p < n → P p (get_or xs p d)) → (p : ℕ) (d : X) → p < n + 1
    → P p (get_or (xs ++ x ∷ []) p d)
at_more P xs x n e is each p d lt = elim (cases_lt p n) [
  | inl early ↦ subst (P p) (sym (get_or_append_left xs (x ∷ []) d p (omega (arith, e, early))))
      (each p d early)
  | inr late ↦
      let here : n ≡ p = omega (arith, lt, late) in
      subst (P p) (sym (get_or_push xs x d p (e ∙ here))) (subst (λ k. P k x) here is)
]

-- where one flat point more stands
pub starts_more : (ts : List Triple) (ss : List Start) (t : Triple) (s : Start) → AreStarts ts ss
    → IsStart t s → AreStarts (ts ++ t ∷ []) (ss ++ s ∷ [])
starts_more [] [] t s h is = (is, tt)
starts_more [] (y ∷ ys) t s h is = absurd h
starts_more (x ∷ xs) [] t s h is = absurd h
starts_more (x ∷ xs) (y ∷ ys) t s h is = (h.0, starts_more xs ys t s h.1 is)
