-- Identities between polynomials of integers, decided by computing.
use Rattle.std.proofs.Common.{◌≡◌, ℕ, zero, suc, ℤ, pos, negsuc, ◌+ℤ◌, ◌-ℤ◌, ◌*ℤ◌, neg_ℤ, arith, ap, sym, ◌∙◌}
use Rattle.std.proofs.Common.{Bool, true, false, cond, ◌&&◌, eqb, ltb, eqb-true, List, [], ◌∷◌, refl}
use Rattle.std.proofs.lemmas.Int.{ints}
use Rattle.carton_base.proofs.Products.{mul_add_right, mul_assoc_ℤ, mul_comm_ℤ}

-- a polynomial as it is written
pub data Poly : Type 0 where
  at : ℕ → Poly
  whole : ℕ → Poly
  less : Poly → Poly
  ◌⊕◌ : Poly → Poly → Poly
  ◌⊖◌ : Poly → Poly → Poly
  ◌⊗◌ : Poly → Poly → Poly

infixl 10 ◌⊕◌
infixl 10 ◌⊖◌
infixl 20 ◌⊗◌
abbrev pub look : List ℤ → ℕ → ℤ
look [] n = pos 0
look (x ∷ xs) zero = x
look (x ∷ xs) (suc n) = look xs n

-- its value where the variables are the members of a list
abbrev pub value : List ℤ → Poly → ℤ
value xs (at n) = look xs n
value xs (whole n) = pos n
value xs (less p) = neg_ℤ (value xs p)
value xs (p ⊕ q) = value xs p +ℤ value xs q
value xs (p ⊖ q) = value xs p -ℤ value xs q
value xs (p ⊗ q) = value xs p *ℤ value xs q

-- a whole number times a product of variables
pub record Mono : Type 0 where
  pub factor : ℤ
  pub vars : List ℕ

abbrev pub product : List ℤ → List ℕ → ℤ
product xs [] = pos 1
product xs (v ∷ vs) = look xs v *ℤ product xs vs

abbrev pub total : List ℤ → List Mono → ℤ
total xs [] = pos 0
total xs (m ∷ ms) = m.factor *ℤ product xs m.vars +ℤ total xs ms

abbrev pub insert_var : ℕ → List ℕ → List ℕ
insert_var v [] = v ∷ []
insert_var v (u ∷ us) = cond (ltb u v) (u ∷ insert_var v us) (v ∷ u ∷ us)

abbrev pub join_vars : List ℕ → List ℕ → List ℕ
join_vars [] us = us
join_vars (v ∷ vs) us = insert_var v (join_vars vs us)

abbrev pub are_same : List ℕ → List ℕ → Bool
are_same [] [] = true
are_same [] (u ∷ us) = false
are_same (v ∷ vs) [] = false
are_same (v ∷ vs) (u ∷ us) = eqb v u && are_same vs us

abbrev pub add_mono : Mono → List Mono → List Mono
add_mono m [] = m ∷ []
add_mono m (n ∷ ns) =
    cond (are_same m.vars n.vars) (record { factor = m.factor +ℤ n.factor; vars = n.vars } ∷ ns)
    (n ∷ add_mono m ns)

abbrev pub add_all : List Mono → List Mono → List Mono
add_all [] ns = ns
add_all (m ∷ ms) ns = add_mono m (add_all ms ns)

abbrev pub scale : Mono → List Mono → List Mono
scale m [] = []
scale m (n ∷ ns) = add_mono (record { factor = m.factor *ℤ n.factor; vars = join_vars m.vars n.vars })
    (scale m ns)

abbrev pub multiply : List Mono → List Mono → List Mono
multiply [] ns = []
multiply (m ∷ ms) ns = add_all (scale m ns) (multiply ms ns)

abbrev pub less_one : Mono
less_one = record { factor = negsuc 0; vars = [] }

abbrev pub expand : Poly → List Mono
expand (at n) = record { factor = pos 1; vars = n ∷ [] } ∷ []
expand (whole n) = record { factor = pos n; vars = [] } ∷ []
expand (less p) = scale less_one (expand p)
expand (p ⊕ q) = add_all (expand p) (expand q)
expand (p ⊖ q) = add_all (expand p) (scale less_one (expand q))
expand (p ⊗ q) = multiply (expand p) (expand q)

abbrev pub is_nought : ℤ → Bool
is_nought (pos zero) = true
is_nought (pos (suc n)) = false
is_nought (negsuc n) = false

abbrev pub vanish : List Mono → Bool
vanish [] = true
vanish (m ∷ ms) = is_nought m.factor && vanish ms

pick : {A : Type 0} (P : A → Type 0) (b : Bool) (x y : A) → (b ≡ true → P x) → P y → P (cond b x y)
pick P true x y p q = p refl
pick P false x y p q = q

both : (a b : Bool) → (a && b) ≡ true → (a ≡ true) × (b ≡ true)
both true true e = (refl, refl)
both true false e = (refl, e)
both false b e = absurd (cc)

swap_front : (a b c : ℤ) → a *ℤ (b *ℤ c) ≡ b *ℤ (a *ℤ c)
swap_front a b c = sym (mul_assoc_ℤ a b c) ∙ ap (λ z. z *ℤ c) (mul_comm_ℤ a b) ∙ mul_assoc_ℤ b a c

insert_is : (xs : List ℤ) (v : ℕ) (us : List ℕ) → product xs (insert_var v us) ≡ look xs v *ℤ product xs us
insert_is xs v [] = refl
insert_is xs v (u ∷ us) = pick (λ r. product xs r ≡ look xs v *ℤ (look xs u *ℤ product xs us)) (ltb u v)
    (u ∷ insert_var v us) (v ∷ u ∷ us) (λ e. ap (λ z. look xs u *ℤ z) (insert_is xs v us)
    ∙ swap_front (look xs u) (look xs v) (product xs us)) refl

one_times : (z : ℤ) → pos 1 *ℤ z ≡ z
one_times z = omega (arith, ints)

nought_times : (z : ℤ) → pos 0 *ℤ z ≡ pos 0
nought_times z = omega (arith, ints)

less_times : (z : ℤ) → negsuc 0 *ℤ z ≡ neg_ℤ z
less_times z = omega (arith, ints)

join_is : (xs : List ℤ) (vs us : List ℕ) → product xs (join_vars vs us) ≡ product xs vs *ℤ product xs us
join_is xs [] us = sym (one_times (product xs us))
join_is xs (v ∷ vs) us = insert_is xs v (join_vars vs us) ∙ ap (λ z. look xs v *ℤ z) (join_is xs vs us)
    ∙ sym (mul_assoc_ℤ (look xs v) (product xs vs) (product xs us))

same_is : (vs us : List ℕ) → are_same vs us ≡ true → vs ≡ us
same_is [] [] e = refl
same_is [] (u ∷ us) e = absurd (cc)
same_is (v ∷ vs) [] e = absurd (cc)
same_is (v ∷ vs) (u ∷ us) e = let b = both (eqb v u) (are_same vs us) e in ap (λ z. z ∷ vs) (eqb-true v u b.0)
    ∙ ap (λ z. u ∷ z) (same_is vs us b.1)

add_is : (xs : List ℤ) (m : Mono) (ns : List Mono) → total xs (add_mono m ns) ≡ m.factor *ℤ product xs m.vars
    +ℤ total xs ns
add_is xs m [] = refl
add_is xs m (n ∷ ns) = pick (λ r. total xs r ≡ m.factor *ℤ product xs m.vars +ℤ total xs (n ∷ ns))
    (are_same m.vars n.vars) (record { factor = m.factor +ℤ n.factor; vars = n.vars } ∷ ns)
    (n ∷ add_mono m ns)
    (λ e. let s : product xs m.vars ≡ product xs n.vars = ap (product xs) (same_is m.vars n.vars e) in
    rw s (together m.factor n.factor (product xs n.vars) (total xs ns)))
    (later (n.factor *ℤ product xs n.vars) (total xs (add_mono m ns)) (m.factor *ℤ product xs m.vars)
    (total xs ns) (add_is xs m ns))
  where
    together : (a b c d : ℤ) → (a +ℤ b) *ℤ c +ℤ d ≡ a *ℤ c +ℤ (b *ℤ c +ℤ d)
    together a b c d = omega (arith, ints, mul_add_right a b c)

    later : (a b c d : ℤ) → b ≡ c +ℤ d → a +ℤ b ≡ c +ℤ (a +ℤ d)
    later a b c d e = omega (arith, ints, e)

add_all_is : (xs : List ℤ) (ms ns : List Mono) → total xs (add_all ms ns) ≡ total xs ms +ℤ total xs ns
add_all_is xs [] ns = omega (arith, ints)
add_all_is xs (m ∷ ms) ns = add_is xs m (add_all ms ns)
    ∙ regroup (m.factor *ℤ product xs m.vars) (total xs (add_all ms ns)) (total xs ms) (total xs ns)
    (add_all_is xs ms ns)
  where
    regroup : (a b c d : ℤ) → b ≡ c +ℤ d → a +ℤ b ≡ (a +ℤ c) +ℤ d
    regroup a b c d e = omega (arith, ints, e)

scale_is : (xs : List ℤ) (m : Mono) (ns : List Mono) → total xs (scale m ns)
    ≡ (m.factor *ℤ product xs m.vars) *ℤ total xs ns
scale_is xs m [] = omega (arith, ints)
scale_is xs m (n ∷ ns) =
    add_is xs (record { factor = m.factor *ℤ n.factor; vars = join_vars m.vars n.vars }) (scale m ns)
    ∙ ap (λ z. (m.factor *ℤ n.factor) *ℤ z +ℤ total xs (scale m ns)) (join_is xs m.vars n.vars)
    ∙ ap (λ z. (m.factor *ℤ n.factor) *ℤ (product xs m.vars *ℤ product xs n.vars) +ℤ z) (scale_is xs m ns)
    ∙ mixed m.factor n.factor (product xs m.vars) (product xs n.vars) (total xs ns)
  where
    crossed : (a b c d : ℤ) → (a *ℤ b) *ℤ (c *ℤ d) ≡ (a *ℤ c) *ℤ (b *ℤ d)
    crossed a b c d = mul_assoc_ℤ a b (c *ℤ d) ∙ ap (λ z. a *ℤ z) (swap_front b c d)
        ∙ sym (mul_assoc_ℤ a c (b *ℤ d))

    mixed : (a b c d t : ℤ) → (a *ℤ b) *ℤ (c *ℤ d) +ℤ (a *ℤ c) *ℤ t ≡ (a *ℤ c) *ℤ (b *ℤ d +ℤ t)
    mixed a b c d t = ap (λ z. z +ℤ (a *ℤ c) *ℤ t) (crossed a b c d) ∙ spread (a *ℤ c) (b *ℤ d) t
      where
        spread : (p q t : ℤ) → p *ℤ q +ℤ p *ℤ t ≡ p *ℤ (q +ℤ t)
        spread p q t = omega (arith, ints, mul_add_right q t p, mul_comm_ℤ p (q +ℤ t))

multiply_is : (xs : List ℤ) (ms ns : List Mono) → total xs (multiply ms ns) ≡ total xs ms *ℤ total xs ns
multiply_is xs [] ns = sym (nought_times (total xs ns))
multiply_is xs (m ∷ ms) ns = add_all_is xs (scale m ns) (multiply ms ns)
    ∙ ap (λ z. z +ℤ total xs (multiply ms ns)) (scale_is xs m ns)
    ∙ ap (λ z. (m.factor *ℤ product xs m.vars) *ℤ total xs ns +ℤ z) (multiply_is xs ms ns)
    ∙ sym (mul_add_right (m.factor *ℤ product xs m.vars) (total xs ms) (total xs ns))

expand_is : (xs : List ℤ) (p : Poly) → total xs (expand p) ≡ value xs p
expand_is xs (at n) = plain (look xs n)
  where
    plain : (z : ℤ) → pos 1 *ℤ (z *ℤ pos 1) +ℤ pos 0 ≡ z
    plain z = omega (arith, ints, one_times (z *ℤ pos 1))
expand_is xs (whole n) = plain (pos n)
  where
    plain : (z : ℤ) → z *ℤ pos 1 +ℤ pos 0 ≡ z
    plain z = omega (arith, ints)
expand_is xs (less p) = scale_is xs less_one (expand p) ∙ less_times (total xs (expand p))
    ∙ ap neg_ℤ (expand_is xs p)
expand_is xs (p ⊕ q) = add_all_is xs (expand p) (expand q)
    ∙ ap (λ z. z +ℤ total xs (expand q)) (expand_is xs p) ∙ ap (λ z. value xs p +ℤ z) (expand_is xs q)
expand_is xs (p ⊖ q) = add_all_is xs (expand p) (scale less_one (expand q))
    ∙ ap (λ z. z +ℤ total xs (scale less_one (expand q))) (expand_is xs p)
    ∙ ap (λ z. value xs p +ℤ z) (scale_is xs less_one (expand q) ∙ less_times (total xs (expand q))
    ∙ ap neg_ℤ (expand_is xs q))
expand_is xs (p ⊗ q) = multiply_is xs (expand p) (expand q)
    ∙ ap (λ z. z *ℤ total xs (expand q)) (expand_is xs p) ∙ ap (λ z. value xs p *ℤ z) (expand_is xs q)

nought_is : (z : ℤ) → is_nought z ≡ true → z ≡ pos 0
nought_is (pos zero) e = refl
nought_is (pos (suc n)) e = absurd (cc)
nought_is (negsuc n) e = absurd (cc)

vanish_is : (xs : List ℤ) (ms : List Mono) → vanish ms ≡ true → total xs ms ≡ pos 0
vanish_is xs [] e = refl
vanish_is xs (m ∷ ms) e = let b = both (is_nought m.factor) (vanish ms) e in
    rw (nought_is m.factor b.0, vanish_is xs ms b.1) (nought_plus (product xs m.vars))
  where
    nought_plus : (z : ℤ) → pos 0 *ℤ z +ℤ pos 0 ≡ pos 0
    nought_plus z = omega (arith, ints)

-- two sides that are to be equal for all values
pub record Sides : Type 0 where
  pub left : Poly
  pub right : Poly

infixl 5 ◌⊜◌
abbrev pub ◌⊜◌ : Poly → Poly → Sides
p ⊜ q = record { left = p; right = q }

abbrev pub agree : Sides → Bool
agree s = vanish (expand (s.left ⊖ s.right))

abbrev pub AreEqual : List ℤ → Sides → Type 0
AreEqual xs s = value xs s.left ≡ value xs s.right

pub equal_at : (xs : List ℤ) (s : Sides) → agree s ≡ true → AreEqual xs s
equal_at xs s e = from_difference (value xs s.left) (value xs s.right) (sym (expand_is xs (s.left ⊖ s.right))
    ∙ vanish_is xs (expand (s.left ⊖ s.right)) e)
  where
    from_difference : (a b : ℤ) → a -ℤ b ≡ pos 0 → a ≡ b
    from_difference a b e = omega (arith, ints, e)

-- the same, where the sides are written as a function of their variables
pub by2 : (f : Poly → Poly → Sides) → agree (f (at 0) (at 1)) ≡ true → (a b : ℤ)
    → AreEqual (a ∷ b ∷ []) (f (at 0) (at 1))
by2 f e a b = equal_at (a ∷ b ∷ []) (f (at 0) (at 1)) e

pub by3 : (f : Poly → Poly → Poly → Sides) → agree (f (at 0) (at 1) (at 2)) ≡ true → (a b c : ℤ)
    → AreEqual (a ∷ b ∷ c ∷ []) (f (at 0) (at 1) (at 2))
by3 f e a b c = equal_at (a ∷ b ∷ c ∷ []) (f (at 0) (at 1) (at 2)) e

pub by4 : (f : Poly → Poly → Poly → Poly → Sides) → agree (f (at 0) (at 1) (at 2) (at 3)) ≡ true
    → (a b c d : ℤ) → AreEqual (a ∷ b ∷ c ∷ d ∷ []) (f (at 0) (at 1) (at 2) (at 3))
by4 f e a b c d = equal_at (a ∷ b ∷ c ∷ d ∷ []) (f (at 0) (at 1) (at 2) (at 3)) e

pub by5 : (f : Poly → Poly → Poly → Poly → Poly → Sides) → agree (f (at 0) (at 1) (at 2) (at 3) (at 4)) ≡ true
    → (a b c d g : ℤ) → AreEqual (a ∷ b ∷ c ∷ d ∷ g ∷ []) (f (at 0) (at 1) (at 2) (at 3) (at 4))
by5 f e a b c d g = equal_at (a ∷ b ∷ c ∷ d ∷ g ∷ []) (f (at 0) (at 1) (at 2) (at 3) (at 4)) e

pub by6 : (f : Poly → Poly → Poly → Poly → Poly → Poly → Sides)
    → agree (f (at 0) (at 1) (at 2) (at 3) (at 4) (at 5)) ≡ true → (a b c d g h : ℤ)
    → AreEqual (a ∷ b ∷ c ∷ d ∷ g ∷ h ∷ []) (f (at 0) (at 1) (at 2) (at 3) (at 4) (at 5))
by6 f e a b c d g h = equal_at (a ∷ b ∷ c ∷ d ∷ g ∷ h ∷ []) (f (at 0) (at 1) (at 2) (at 3) (at 4) (at 5)) e

pub by7 : (f : Poly → Poly → Poly → Poly → Poly → Poly → Poly → Sides)
    → agree (f (at 0) (at 1) (at 2) (at 3) (at 4) (at 5) (at 6)) ≡ true → (a b c d g h i : ℤ)
    → AreEqual (a ∷ b ∷ c ∷ d ∷ g ∷ h ∷ i ∷ []) (f (at 0) (at 1) (at 2) (at 3) (at 4) (at 5) (at 6))
by7 f e a b c d g h i =
    equal_at (a ∷ b ∷ c ∷ d ∷ g ∷ h ∷ i ∷ []) (f (at 0) (at 1) (at 2) (at 3) (at 4) (at 5) (at 6)) e

pub by8 : (f : Poly → Poly → Poly → Poly → Poly → Poly → Poly → Poly → Sides)
    → agree (f (at 0) (at 1) (at 2) (at 3) (at 4) (at 5) (at 6) (at 7)) ≡ true → (a b c d g h i j : ℤ)
    → AreEqual (a ∷ b ∷ c ∷ d ∷ g ∷ h ∷ i ∷ j ∷ []) (f (at 0) (at 1) (at 2) (at 3) (at 4) (at 5) (at 6) (at
    7))
by8 f e a b c d g h i j =
    equal_at (a ∷ b ∷ c ∷ d ∷ g ∷ h ∷ i ∷ j ∷ []) (f (at 0) (at 1) (at 2) (at 3) (at 4) (at 5) (at 6) (at 7))
    e

pub by9 : (f : Poly → Poly → Poly → Poly → Poly → Poly → Poly → Poly → Poly → Sides)
    → agree (f (at 0) (at 1) (at 2) (at 3) (at 4) (at 5) (at 6) (at 7) (at 8)) ≡ true
    → (a b c d g h i j k : ℤ)
    → AreEqual (a ∷ b ∷ c ∷ d ∷ g ∷ h ∷ i ∷ j ∷ k
    ∷ []) (f (at 0) (at 1) (at 2) (at 3) (at 4) (at 5) (at 6) (at 7) (at 8))
by9 f e a b c d g h i j k =
    equal_at (a ∷ b ∷ c ∷ d ∷ g ∷ h ∷ i ∷ j ∷ k ∷ [])
    (f (at 0) (at 1) (at 2) (at 3) (at 4) (at 5) (at 6) (at 7) (at 8)) e

pub by10 : (f : Poly → Poly → Poly → Poly → Poly → Poly → Poly → Poly → Poly → Poly → Sides)
    → agree (f (at 0) (at 1) (at 2) (at 3) (at 4) (at 5) (at 6) (at 7) (at 8) (at 9)) ≡ true
    → (a b c d g h i j k l : ℤ)
    → AreEqual (a ∷ b ∷ c ∷ d ∷ g ∷ h ∷ i ∷ j ∷ k ∷ l
    ∷ []) (f (at 0) (at 1) (at 2) (at 3) (at 4) (at 5) (at 6) (at 7) (at 8) (at 9))
by10 f e a b c d g h i j k l =
    equal_at (a ∷ b ∷ c ∷ d ∷ g ∷ h ∷ i ∷ j ∷ k ∷ l ∷ [])
    (f (at 0) (at 1) (at 2) (at 3) (at 4) (at 5) (at 6) (at 7) (at 8) (at 9)) e

pub by11 : (f : Poly → Poly → Poly → Poly → Poly → Poly → Poly → Poly → Poly → Poly → Poly → Sides)
    → agree (f (at 0) (at 1) (at 2) (at 3) (at 4) (at 5) (at 6) (at 7) (at 8) (at 9) (at 10)) ≡ true
    → (a b c d g h i j k l m : ℤ)
    → AreEqual (a ∷ b ∷ c ∷ d ∷ g ∷ h ∷ i ∷ j ∷ k ∷ l ∷ m
    ∷ []) (f (at 0) (at 1) (at 2) (at 3) (at 4) (at 5) (at 6) (at 7) (at 8) (at 9) (at 10))
by11 f e a b c d g h i j k l m =
    equal_at (a ∷ b ∷ c ∷ d ∷ g ∷ h ∷ i ∷ j ∷ k ∷ l ∷ m ∷ [])
    (f (at 0) (at 1) (at 2) (at 3) (at 4) (at 5) (at 6) (at 7) (at 8) (at 9) (at 10)) e

pub by12 : (f : Poly → Poly → Poly → Poly → Poly → Poly → Poly → Poly → Poly → Poly → Poly → Poly → Sides)
    → agree (f (at 0) (at 1) (at 2) (at 3) (at 4) (at 5) (at 6) (at 7) (at 8) (at 9) (at 10) (at 11)) ≡ true
    → (a b c d g h i j k l m n : ℤ)
    → AreEqual (a ∷ b ∷ c ∷ d ∷ g ∷ h ∷ i ∷ j ∷ k ∷ l ∷ m ∷ n
    ∷ []) (f (at 0) (at 1) (at 2) (at 3) (at 4) (at 5) (at 6) (at 7) (at 8) (at 9) (at 10) (at 11))
by12 f e a b c d g h i j k l m n =
    equal_at (a ∷ b ∷ c ∷ d ∷ g ∷ h ∷ i ∷ j ∷ k ∷ l ∷ m ∷ n ∷ [])
    (f (at 0) (at 1) (at 2) (at 3) (at 4) (at 5) (at 6) (at 7) (at 8) (at 9) (at 10) (at 11)) e
