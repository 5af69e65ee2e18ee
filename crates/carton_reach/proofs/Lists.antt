-- Two lists that are read at the same places.
use Rattle.std.proofs.Common.{◌≡◌, ℕ, ◌+◌, ◌<◌, List, length, get_or, set, arith, ◌≤◌, ◌∙◌, subst, inl, inr}
use Rattle.std.proofs.Common.{ℤ, ◌≤ℤ◌, true, IsTrue, ◌↔◌}
use Rattle.std.proofs.lemmas.Int.{ints}
use Rattle.std.specs.Int.Signed.{le_z}
use Rattle.std.proofs.lemmas.Bool.{cases_lt}
use Rattle.std.proofs.lemmas.List.{get_or_default, get_or-set_other}

-- two lists that are only read, each at a default of its own, have P at one place more
pub one_more_pair : {X : Type 0} (P : X → X → Type 0) (ps qs : List X) (i : ℕ) (x y : X) → length ps ≡ 13
    → length qs ≡ 13 → i < 13 → P (get_or ps i x) (get_or qs i y)
    → ((a : ℕ) (d : X) → a < i → a < 13 → P (get_or ps a d) (get_or qs a d)) → (a : ℕ) (d : X) → a < i + 1
    → a < 13 → P (get_or ps a d) (get_or qs a d)
one_more_pair {X} P ps qs i x y hp hq h p below a d k l = elim (cases_lt a i) [
  | inl lt ↦ below a d lt l
  | inr le ↦
      let e : i ≡ a = omega (arith, le, k) in
      subst (λ b. P (get_or ps b d) (get_or qs b d)) e
      (subst (λ z. P z (get_or qs i d)) (get_or_default ps i x d (omega (arith, hp, h)))
      (subst (λ z. P (get_or ps i x) z) (get_or_default qs i y d (omega (arith, hq, h))) p))
]

-- what holds at defaults of their own holds at one
pub same_default : {X : Type 0} (P : X → X → Type 0) (ps qs : List X) (i : ℕ) (x y : X) → i < length qs
    → P (get_or ps i x) (get_or qs i y) → P (get_or ps i x) (get_or qs i x)
same_default P ps qs i x y h p = subst (P (get_or ps i x)) (get_or_default qs i y x h) p

-- a list that is set at one place is as before past it
pub rest_stays : {X : Type 0} (xs ys : List X) (i : ℕ) (x : X)
    → ((a : ℕ) (d : X) → i ≤ a → get_or xs a d ≡ get_or ys a d) → (a : ℕ) (d : X) → i + 1 ≤ a
    → get_or (set xs i x) a d ≡ get_or ys a d
rest_stays xs ys i x same a d l = get_or-set_other xs i a x d (λ e. omega (arith, l, e))
    ∙ same a d (omega (arith, l))

pub at_most_from_test : (a b : ℤ) → le_z a b ≡ true → a ≤ℤ b
at_most_from_test a b h = grind (arith, ints)

pub test_from_at_most : (a b : ℤ) → a ≤ℤ b → le_z a b ≡ true
test_from_at_most a b h = grind (arith, ints)

pub at_most_test : (a b : ℤ) → IsTrue (le_z a b) ↔ a ≤ℤ b
at_most_test a b = (at_most_from_test a b, test_from_at_most a b)
