-- Notes that are written again one after the other, each by what it was.
use Rattle.std.proofs.Common.{◌≡◌, ◌∙◌, refl, sym, subst, inl, inr, ℕ, ◌+◌, ◌<◌, ◌≤◌, List, length, get_or}
use Rattle.std.proofs.Common.{set, arith}
use Rattle.std.proofs.lemmas.Bool.{cases_lt}
use Rattle.std.proofs.lemmas.List.{get_or_default, get_or-set_same, get_or-set_other, length-set}

-- the first notes stand to what they were as Q says, and the others are as they were
pub record HaveChanged {X : Type 0} (Q : ℕ → X → X → Type 0) (old new : List X) (k : ℕ) : Type 0 where
  pub count : length new ≡ length old
  pub changed : (j : ℕ) (d e : X) → j < k → Q j (get_or old j d) (get_or new j e)
  pub rest : (j : ℕ) (d : X) → k ≤ j → get_or new j d ≡ get_or old j d

pub none_changed : {X : Type 0} (Q : ℕ → X → X → Type 0) (old : List X) → HaveChanged Q old old 0
none_changed Q old = record {
  count = refl;
  changed = λ j d e lt. absurd (omega (arith, lt));
  rest = λ j d le. refl;
}

pub one_more_changed : {X : Type 0} (Q : ℕ → X → X → Type 0) (old new : List X) (k : ℕ) (x : X)
    → k < length new → ((d : X) → Q k (get_or old k d) x) → HaveChanged Q old new k
    → HaveChanged Q old (set new k x) (k + 1)
one_more_changed {X} Q old new k x lt q h = record {
  count = length-set new k x ∙ h.count;
  changed = λ j d e l. elim (cases_lt j k) [
    | inl less ↦
        subst (Q j (get_or old j d)) (sym (get_or-set_other new k j x e (λ i. omega (arith, less, i))))
        (h.changed j d e less)
    | inr le ↦
        let i : k ≡ j = omega (arith, le, l) in
        subst (λ b. Q b (get_or old b d) (get_or (set new k x) b e)) i
        (subst (Q k (get_or old k d)) (sym (get_or-set_same new k x e lt)) (q d))
  ];
  rest = λ j d le. get_or-set_other new k j x d (λ i. omega (arith, le, i)) ∙ h.rest j d (omega (arith, le));
}

-- two lists that are only read, each at a default of its own, have P at one place more
pub one_more_beside : {X Y : Type 0} (P : X → Y → Type 0) (xs : List X) (ys : List Y) (i : ℕ) (x : X) (y : Y)
    → i < length xs → i < length ys → P (get_or xs i x) (get_or ys i y)
    → ((a : ℕ) (d : X) (e : Y) → a < i → P (get_or xs a d) (get_or ys a e)) → (a : ℕ) (d : X) (e : Y)
    → a < i + 1 → P (get_or xs a d) (get_or ys a e)
one_more_beside P xs ys i x y hx hy p below a d e l = elim (cases_lt a i) [
  | inl lt ↦ below a d e lt
  | inr le ↦
      let k : i ≡ a = omega (arith, le, l) in
      subst (λ b. P (get_or xs b d) (get_or ys b e)) k
      (subst (λ z. P z (get_or ys i e)) (get_or_default xs i x d hx)
      (subst (λ z. P (get_or xs i x) z) (get_or_default ys i y e hy) p))
]
