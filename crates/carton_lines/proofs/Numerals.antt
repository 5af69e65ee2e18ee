-- A word writes a number exactly where it is that number in decimal.
use Rattle.std.proofs.Common.{◌≡◌, ℕ, ◌<◌, ◌^◌, ℤ, pos, negsuc, neg_ℤ, unsigned_abs, Bool, true, false, cond}
use Rattle.std.proofs.Common.{◌&&◌, not, eqb, List, [], ◌∷◌, get_or, drop, Option, Some, None, refl, sym, ap}
use Rattle.std.proofs.Common.{subst, ◌∙◌, arith, bytes_eq, codes, zero, suc}
use Rattle.std.specs.Prelude.{decimal}
use Rattle.std.specs.Fmt.{signed_decimal}
use Rattle.std.specs.Char.{is_ascii_digit}
use Rattle.std.specs.List.{list_all}
use Rattle.std.specs.Str.Parse.{digits_value, starts_with_minus}
use Rattle.std.proofs.lemmas.Bool.{true≢false, and_parts, and_from, not-true, not_from_false, eqb-true}
use Rattle.std.proofs.lemmas.Bool.{eqb-false, ne_eqb, false_from_ne_true}
use Rattle.std.proofs.lemmas.Slice.Eq.{bytes_eq-Decides}
use Rattle.std.proofs.lemmas.Fmt.{decimal_digit, digits_decimal, digits_value-decimal, first_decimal}
use Rattle.std.proofs.lemmas.Fmt.{decimal-digits_value}
use Rattle.carton_lines.specs.Numbers.{is_positive, number}
use Rattle.carton_lines.proofs.Lower.{AreDigits, own, positive_digits, value_positive}

-- a number within 63 bits, as the laws of printed numbers ask
abbrev pub IsSmall : ℤ → Type 0
IsSmall z = unsigned_abs z < 2 ^ 63

-- decimal digits of which the first isn't 0 are their number in decimal
written : (ds : List ℕ) → is_positive ds ≡ true → digits_value 10 ds < 2 ^ 63 → decimal (digits_value 10 ds)
    ≡ ds
written [] h small = absurd (true≢false (sym h))
written (d ∷ ds) h small =
    let parts = and_parts (not (eqb d 48)) (list_all is_ascii_digit (d ∷ ds)) h in
    let other = eqb-false d 48 (not-true (eqb d 48) parts.0) in
    decimal-digits_value own (d ∷ ds) (positive_digits (d ∷ ds) h) (omega arith) (λ same. absurd (other same))
    (omega arith)

minus : (w : List ℕ) → starts_with_minus w ≡ true → w ≡ 45 ∷ drop 1 w
minus [] h = absurd (true≢false (sym h))
minus (b ∷ w) h = ap (λ (c : ℕ). c ∷ w) (eqb-true b 45 h)

negative : (w : List ℕ) (n : ℕ) (z : ℤ) → w ≡ 45 ∷ drop 1 w → is_positive (drop 1 w) ≡ true
    → digits_value 10 (drop 1 w) ≡ n → 0 < n → neg_ℤ (pos n) ≡ z → IsSmall z → w ≡ signed_decimal z
negative w zero z front h value some is small = absurd (omega arith)
negative w (suc n) z front h value some is small =
    let near : suc n < 2 ^ 63 = subst (λ y. IsSmall y) (sym is) small in
    let digits : decimal (suc n) ≡ drop 1 w = ap decimal (sym value)
    ∙ written (drop 1 w) h (subst (λ m. m < 2 ^ 63) (sym value) near) in
    front ∙ ap (λ (ds : List ℕ). 45 ∷ ds) (sym digits) ∙ ap signed_decimal is

-- the word of a number is that number in decimal
pub spelled_number : (w : List ℕ) (z : ℤ) → number w ≡ Some z → IsSmall z → w ≡ signed_decimal z
unfolding number
spelled_number w z h small = by_zero (bytes_eq w (codes "0")) refl h
  where
    below : Option ℤ
    below =
        cond (starts_with_minus w && is_positive (drop 1 w)) (Some (neg_ℤ (pos (digits_value 10 (drop 1 w)))))
        None

    by_minus : (b : Bool) → (starts_with_minus w && is_positive (drop 1 w)) ≡ b
        → cond b (Some (neg_ℤ (pos (digits_value 10 (drop 1 w))))) None ≡ Some z → w ≡ signed_decimal z
    by_minus true e g =
        let parts = and_parts (starts_with_minus w) (is_positive (drop 1 w)) e in
        let is : neg_ℤ (pos (digits_value 10 (drop 1 w))) ≡ z = cc in
        negative w (digits_value 10 (drop 1 w)) z (minus w parts.0) parts.1 refl
        (value_positive (drop 1 w) parts.1) is small
    by_minus false e g = cc

    by_sign : (b : Bool) → is_positive w ≡ b → cond b (Some (pos (digits_value 10 w))) below ≡ Some z
        → w ≡ signed_decimal z
    by_sign true e g =
        let is : pos (digits_value 10 w) ≡ z = cc in
        sym (written w e (subst (λ y. IsSmall y) (sym is) small)) ∙ ap signed_decimal is
    by_sign false e g = by_minus (starts_with_minus w && is_positive (drop 1 w)) refl g

    by_zero : (b : Bool) → bytes_eq w (codes "0") ≡ b
        → cond b (Some (pos 0)) (cond (is_positive w) (Some (pos (digits_value 10 w))) below) ≡ Some z
        → w ≡ signed_decimal z
    by_zero true e g =
        let is : pos 0 ≡ z = cc in
        (bytes_eq-Decides w (codes "0")).0 e ∙ sym (decimal_digit 0 (omega arith)) ∙ ap signed_decimal is
    by_zero false e g = by_sign (is_positive w) refl g

positive : (ds : List ℕ) → AreDigits ds → 48 < get_or ds 0 0 → is_positive ds ≡ true
positive [] h first = absurd (omega arith)
positive (d ∷ ds) h first =
    and_from (not (eqb d 48)) (list_all is_ascii_digit (d ∷ ds))
    (not_from_false (eqb d 48) (ne_eqb d 48 (λ e. omega (arith, e, first)))) h

not_zero : (ds : List ℕ) → 48 < get_or ds 0 0 → bytes_eq ds (codes "0") ≡ false
not_zero ds first =
    false_from_ne_true _
    (λ e. let same = ap (λ (xs : List ℕ). get_or xs 0 0) ((bytes_eq-Decides ds (codes "0")).0 e) in
    omega (arith, same, first))

-- a number in decimal writes it
pub number_spelled : (z : ℤ) → IsSmall z → number (signed_decimal z) ≡ Some z
unfolding number
number_spelled (pos zero) small = rw (decimal_digit 0 (omega arith)) refl
number_spelled (pos (suc n)) small =
    let first = first_decimal (suc n) (omega arith) (omega arith) in
    let is : is_positive (decimal (suc n)) ≡ true =
    positive (decimal (suc n)) (digits_decimal own (suc n) (omega arith)) first in
    let value : digits_value 10 (decimal (suc n)) ≡ suc n = digits_value-decimal own (suc n) (omega arith) in
    rw (not_zero (decimal (suc n)) first, is, value) refl
number_spelled (negsuc n) small =
    let first = first_decimal (suc n) (omega arith) (omega arith) in
    let is : is_positive (decimal (suc n)) ≡ true =
    positive (decimal (suc n)) (digits_decimal own (suc n) (omega arith)) first in
    let value : digits_value 10 (decimal (suc n)) ≡ suc n = digits_value-decimal own (suc n) (omega arith) in
    rw (is, value) refl
