-- Ordered lists with the same members are one list.
use Rattle.std.proofs.Common.{◌≡◌, zero, suc, ◌⊎◌, inl, inr, List, [], ◌∷◌, arith, sym, subst, refl, ap, ◌∙◌}
use Rattle.std.proofs.Common.{AllPairs, Contains}

-- a member of x, xs is x or one of xs
member_cases : {X : Type 0} → (x : X) (xs : List X) (p : X) → Contains (x ∷ xs) p → (x ≡ p) ⊎ Contains xs p
member_cases x xs p (zero, lt, is) = inl is
member_cases x xs p (suc k, lt, is) = inr (k, omega (arith, lt), is)

first_member : {X : Type 0} → (x : X) (xs : List X) → Contains (x ∷ xs) x
first_member x xs = (0, omega arith, refl)

pub later_member : {X : Type 0} → (x : X) (xs : List X) (p : X) → Contains xs p → Contains (x ∷ xs) p
later_member x xs p (k, lt, is) = (suc k, omega (arith, lt), is)

-- no two elements come before each other
abbrev pub IsStrict : {X : Type 0} → (X → X → Type 0) → Type 0
IsStrict {X} R = (p q : X) → R p q → R q p → ⊥

-- each member of the first list is one of the second
abbrev pub Covers : {X : Type 0} → List X → List X → Type 0
Covers {X} xs ys = (p : X) → Contains xs p → Contains ys p

-- the first of an ordered list is before each member of the rest
first_before : {X : Type 0} (R : X → X → Type 0) (x : X) (xs : List X) (p : X) → AllPairs R (x ∷ xs)
    → Contains xs p → R x p
first_before R x xs p ordered (k, lt, is) =
    subst (λ q. R x q) is (ordered 0 (suc k) p (omega arith) (omega (arith, lt)))

rest_ordered : {X : Type 0} (R : X → X → Type 0) (x : X) (xs : List X) → AllPairs R (x ∷ xs) → AllPairs R xs
rest_ordered R x xs ordered =
    λ i j d lt less. ordered (suc i) (suc j) d (omega (arith, lt)) (omega (arith, less))

-- the first members are one where each list has all members of the other
one_first : {X : Type 0} (R : X → X → Type 0) (x y : X) (xs ys : List X) → IsStrict R → AllPairs R (x ∷ xs)
    → AllPairs R (y ∷ ys) → Covers (x ∷ xs) (y ∷ ys) → Covers (y ∷ ys) (x ∷ xs) → x ≡ y
one_first R x y xs ys strict ox oy to from = elim (member_cases y ys x (to x (first_member x xs))) [
  | inl same ↦ sym same
  | inr later ↦ elim (member_cases x xs y (from y (first_member y ys))) [
    | inl same ↦ same
    | inr later' ↦ absurd (strict x y (first_before R x xs y ox later') (first_before R y ys x oy later))
  ]
]

-- what the rest of the first list has, the rest of the second has
rest_has : {X : Type 0} (R : X → X → Type 0) (x y : X) (xs ys : List X) → IsStrict R → AllPairs R (x ∷ xs)
    → x ≡ y → Covers (x ∷ xs) (y ∷ ys) → Covers xs ys
rest_has R x y xs ys strict ox e to = λ p has. elim (member_cases y ys p (to p (later_member x xs p has))) [
  | inl same ↦
      let before : R x p = first_before R x xs p ox has in
      let self : R p p = subst (λ q. R q p) same (subst (λ q. R q p) e before) in
      absurd (strict p p self self)
  | inr later ↦ later
]

pub one_list : {X : Type 0} (R : X → X → Type 0) (xs ys : List X) → IsStrict R → AllPairs R xs → AllPairs R ys
    → Covers xs ys → Covers ys xs → xs ≡ ys
one_list R [] [] strict ox oy to from = refl
one_list R [] (y ∷ ys) strict ox oy to from =
    let h = from y (first_member y ys) in absurd (omega (arith, h.1))
one_list R (x ∷ xs) [] strict ox oy to from = let h = to x (first_member x xs) in absurd (omega (arith, h.1))
one_list R (x ∷ xs) (y ∷ ys) strict ox oy to from =
    let e = one_first R x y xs ys strict ox oy to from in
    let rest =
    one_list R xs ys strict (rest_ordered R x xs ox) (rest_ordered R y ys oy)
    (rest_has R x y xs ys strict ox e to) (rest_has R y x ys xs strict oy (sym e) from) in
    ap (λ z. z ∷ xs) e ∙ ap (λ zs. y ∷ zs) rest
