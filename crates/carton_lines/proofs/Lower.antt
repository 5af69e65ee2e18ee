-- Which of two numbers is less, by their digits.
use Rattle.std.proofs.Common.{◌≡◌, ◌≢◌, ℕ, ◌+◌, ◌*◌, ◌≤◌, ◌<◌, Bool, true, false, cond, ◌&&◌, not, eqb, ltb}
use Rattle.std.proofs.Common.{leb, List, [], ◌∷◌, length, refl, sym, ap, subst, ◌∙◌, arith, ℤ, pos, neg_ℤ}
use Rattle.std.proofs.Common.{int_lt, bytes_eq, codes, zero, suc, ⊎_elim}
use Rattle.std.specs.Char.{digit_value, is_ascii_digit}
use Rattle.std.specs.List.{list_all}
use Rattle.std.specs.Str.Parse.{AllDigits, digits_value, digits_value_after}
use Rattle.std.proofs.lemmas.Bool.{true≢false, ltb-true, ltb-false, lt-ltb, le-ltb, leb-true, le-leb}
use Rattle.std.proofs.lemmas.Bool.{eqb-true, eqb-false, and_parts, or_cases, not-true, cases_order}
use Rattle.std.proofs.lemmas.Slice.Eq.{bytes_eq-Decides}
use Rattle.std.proofs.lemmas.Str.{digit_value_digit}
use Rattle.std.proofs.lemmas.Str.Parse.{IsDigitsTest, IsNumeralModel, numerals_by_value}
use Rattle.carton_lines.specs.Numbers.{is_positive, is_natural, is_written}

-- these are decimal digits
abbrev pub AreDigits : List ℕ → Type 0
AreDigits ds = list_all is_ascii_digit ds ≡ true

are_digits : IsDigitsTest AreDigits
are_digits = record {
  empty = refl;
  parts = λ c cs e. let k = and_parts (is_ascii_digit c) (list_all is_ascii_digit cs) e in
      let m = and_parts (leb 48 c) (leb c 57) k.0 in ((leb-true 48 c m.0, leb-true c 57 m.1), k.1);
  more = λ c cs k e i. (le-leb 48 c k.0 i && le-leb c 57 k.1 i) && e i;
}

pub own : IsNumeralModel AreDigits (digits_value 10)
own = numerals_by_value AreDigits are_digits

after-ge : (n : ℕ) (ds : List ℕ) → n ≤ digits_value_after 10 n ds
after-ge n [] = omega arith
after-ge n (d ∷ ds) = let r = after-ge (n * 10 + digit_value d) ds in omega (arith, r)

-- where the number so far is less, more digits don't change that
stays_less : (m n : ℕ) (xs ys : List ℕ) → AllDigits 10 xs → length xs ≤ length ys → m < n
    → digits_value_after 10 m xs < digits_value_after 10 n ys
stays_less m n [] ys a le lt = omega (arith, after-ge n ys)
stays_less m n (x ∷ xs) [] a le lt = absurd (omega arith)
stays_less m n (x ∷ xs) (y ∷ ys) a le lt = stays_less (m * 10 + digit_value x) (n * 10 + digit_value y) xs ys
    a.1 (omega arith) (omega (arith, a.0))

-- the first digits that differ tell which are of less
abbrev pub lower : List ℕ → List ℕ → Bool
lower [] [] = false
lower [] (y ∷ ys) = true
lower (x ∷ xs) [] = false
lower (x ∷ xs) (y ∷ ys) = cond (eqb x y) (lower xs ys) (ltb x y)

digit : (c : ℕ) (cs : List ℕ) → AreDigits (c ∷ cs) → digit_value c + 48 ≡ c
digit c cs h = digit_value_digit c (are_digits.parts c cs h).0

-- of two numbers with as many digits
pub by_digits : (n : ℕ) (xs ys : List ℕ) → AreDigits xs → AreDigits ys → length xs ≡ length ys
    → lower xs ys ≡ ltb (digits_value_after 10 n xs) (digits_value_after 10 n ys)
by_digits n [] [] a b e = sym (le-ltb n n (omega arith))
by_digits n [] (y ∷ ys) a b e = absurd (omega arith)
by_digits n (x ∷ xs) [] a b e = absurd (omega arith)
by_digits n (x ∷ xs) (y ∷ ys) a b e =
    let p = (are_digits.parts x xs a).1 in
    let q = (are_digits.parts y ys b).1 in
    by_first p q (eqb x y) refl (by_digits (n * 10 + digit_value x) xs ys p q (omega arith))
  where
    by_less : AreDigits xs → AreDigits ys → (t : Bool) → eqb x y ≡ false → ltb x y ≡ t
        → t ≡ ltb (digits_value_after 10 (n * 10 + digit_value x) xs) (digits_value_after 10
        (n * 10 + digit_value y) ys)
    by_less p q true h l =
        let less : n * 10 + digit_value x < n * 10 + digit_value y =
        omega (arith, ltb-true x y l, digit x xs a, digit y ys b) in
        sym (lt-ltb _ _ (stays_less (n * 10 + digit_value x) (n * 10 + digit_value y) xs ys (own.to xs p)
        (omega arith) less))
    by_less p q false h l =
        let other : x ≢ y = eqb-false x y h in
        let below : y < x =
        ⊎_elim (λ same. absurd (other same))
        (λ more. ⊎_elim (λ less. absurd (omega (arith, ltb-false x y l, less))) (λ above. above) more)
        (cases_order x y) in
        let less : n * 10 + digit_value y < n * 10 + digit_value x =
        omega (arith, below, digit x xs a, digit y ys b) in
        let more = stays_less (n * 10 + digit_value y) (n * 10 + digit_value x) ys xs (own.to ys q)
        (omega arith) less in
        sym (le-ltb _ _ (omega (arith, more)))

    by_first : AreDigits xs → AreDigits ys → (t : Bool) → eqb x y ≡ t
        → lower xs ys ≡ ltb (digits_value_after 10 (n * 10 + digit_value x) xs) (digits_value_after 10
        (n * 10 + digit_value x) ys)
        → cond t (lower xs ys) (ltb x y)
        ≡ ltb (digits_value_after 10 (n * 10 + digit_value x) xs) (digits_value_after 10
        (n * 10 + digit_value y) ys)
    by_first p q true h rest =
        rest ∙ ap (λ z. ltb (digits_value_after 10 (n * 10 + digit_value x) xs)
        (digits_value_after 10 (n * 10 + digit_value z) ys)) (eqb-true x y h)
    by_first p q false h rest = by_less p q (ltb x y) h refl

pub positive_digits : (ds : List ℕ) → is_positive ds ≡ true → AreDigits ds
positive_digits [] h = absurd (true≢false (sym h))
positive_digits (d ∷ ds) h = (and_parts (not (eqb d 48)) (list_all is_ascii_digit (d ∷ ds)) h).1

-- digits of a number
pub natural_digits : (ds : List ℕ) → is_natural ds ≡ true → AreDigits ds
natural_digits ds h = ⊎_elim
    (λ zero. subst AreDigits (sym ((bytes_eq-Decides ds (codes "0")).0 zero)) refl)
    (λ some. positive_digits ds some)
    (or_cases (bytes_eq ds (codes "0")) (is_positive ds) h)

pub written_digits : (negative : Bool) (ds : List ℕ) → is_written negative ds ≡ true → AreDigits ds
written_digits true ds h = positive_digits ds h
written_digits false ds h = natural_digits ds h

-- the first digit of a number that isn't 0
pub first_positive : (d : ℕ) (ds : List ℕ) → is_positive (d ∷ ds) ≡ true → 1 ≤ digit_value d
first_positive d ds h =
    let parts = and_parts (not (eqb d 48)) (list_all is_ascii_digit (d ∷ ds)) h in
    let other = eqb-false d 48 (not-true (eqb d 48) parts.0) in
    let value = digit d ds parts.1 in
    ⊎_elim (λ same. absurd (other same))
    (λ more. ⊎_elim (λ below. absurd (omega (arith, value, (are_digits.parts d ds parts.1).0.0)))
    (λ above. omega (arith, value)) more) (cases_order d 48)

pub value_positive : (ds : List ℕ) → is_positive ds ≡ true → 0 < digits_value 10 ds
value_positive [] h = absurd (true≢false (sym h))
value_positive (d ∷ ds) h =
    let first = first_positive d ds h in
    let rest = after-ge (0 * 10 + digit_value d) ds in
    omega (arith, first, rest)

some_digits : (ds : List ℕ) → is_natural ds ≡ true → 1 ≤ length ds
some_digits [] h = absurd (true≢false (sym h))
some_digits (d ∷ ds) h = omega arith

longer_positive : (d e : ℕ) (ds : List ℕ) → is_natural (d ∷ e ∷ ds) ≡ true → is_positive (d ∷ e ∷ ds) ≡ true
longer_positive d e ds h = ⊎_elim
    (λ zero. let long = ap length ((bytes_eq-Decides (d ∷ e ∷ ds) (codes "0")).0 zero) in
    absurd (omega (arith, long)))
    (λ some. some)
    (or_cases (bytes_eq (d ∷ e ∷ ds) (codes "0")) (is_positive (d ∷ e ∷ ds)) h)

-- a number with fewer digits is less
pub shorter : (xs ys : List ℕ) → is_natural xs ≡ true → is_natural ys ≡ true → length xs < length ys
    → digits_value 10 xs < digits_value 10 ys
shorter xs [] a b lt = absurd (omega arith)
shorter xs (d ∷ []) a b lt = let some = some_digits xs a in absurd (omega (arith, some))
shorter xs (d ∷ e ∷ ds) a b lt =
    let first = first_positive d (e ∷ ds) (longer_positive d e ds b) in
    stays_less 0 (0 * 10 + digit_value d) xs (e ∷ ds) (own.to xs (natural_digits xs a)) (omega arith)
    (omega (arith, first))

pub by_length : (xs ys : List ℕ) → is_natural xs ≡ true → is_natural ys ≡ true → length xs ≢ length ys
    → ltb (length xs) (length ys) ≡ ltb (digits_value 10 xs) (digits_value 10 ys)
by_length xs ys a b other = by_test (ltb (length xs) (length ys)) refl
  where
    by_test : (t : Bool) → ltb (length xs) (length ys) ≡ t → t ≡ ltb (digits_value 10 xs) (digits_value 10 ys)
    by_test true h = sym (lt-ltb _ _ (shorter xs ys a b (ltb-true _ _ h)))
    by_test false h =
        let less : length ys < length xs =
        ⊎_elim (λ same. absurd (other same))
        (λ more. ⊎_elim (λ below. absurd (omega (arith, ltb-false _ _ h, below))) (λ above. above) more)
        (cases_order (length xs) (length ys)) in
        sym (le-ltb _ _ (omega (arith, shorter ys xs b a less)))

-- a negative number is less than one that isn't
pub negative_first : (m n : ℕ) (y z : ℤ) → 0 < m → neg_ℤ (pos m) ≡ y → pos n ≡ z → true ≡ int_lt y z
negative_first zero n y z some e f = absurd (omega arith)
negative_first (suc m) n y z some e f = λ i. int_lt (e i) (f i)
