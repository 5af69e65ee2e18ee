-- Numbers as a text writes them: decimal, of any number of digits.
use Rattle.std.specs.Prelude.{ℕ, ℤ, pos, negsuc, neg_ℤ, unsigned_abs, List, [], ◌∷◌, nat_eq, nat_le, not}
use Rattle.std.specs.Prelude.{◌&&◌, ◌||◌, bytes_eq, drop, Bool, false, if◌then◌else◌, Option, Some, None}
use Rattle.std.specs.Prelude.{ok_or, Result, Ok, Err, codes}
use Rattle.std.specs.Char.{is_ascii_digit}
use Rattle.std.specs.List.{list_all}
use Rattle.std.specs.Str.Parse.{digits_value, starts_with_minus}
use Rattle.carton_lines.specs.declared.fault.Fault.{Fault}
use Rattle.carton_lines.specs.declared.fault.Fault.TheVariants.{BadLine, Range}
use Rattle.carton_base.specs.Steps.{entries_from}

-- decimal digits, the first of which is not 0
abbrev pub is_positive : List ℕ → Bool
is_positive [] = false
is_positive (d ∷ ds) = not (nat_eq d 48) && list_all is_ascii_digit (d ∷ ds)

-- 0, or decimal digits, the first of which is not 0
abbrev pub is_natural : List ℕ → Bool
is_natural ds = bytes_eq ds (codes "0") || is_positive ds

-- a number's digits, after a minus where it is negative
abbrev pub is_written : Bool → List ℕ → Bool
is_written negative ds = if negative then is_positive ds else is_natural ds

-- the number that a word writes: 0, or digits of which the first is not 0, or such digits after a minus
unfoldable pub number : List ℕ → Option ℤ
number word =
    if bytes_eq word (codes "0") then Some (pos 0) else (
    if is_positive word then Some (pos (digits_value 10 word)) else (
    if starts_with_minus word
    && is_positive (drop 1 word) then Some (neg_ℤ (pos (digits_value 10 (drop 1 word)))) else None))

-- the number where it lies from low to high
abbrev pub from_to : ℕ → ℕ → ℤ → Result ℕ Fault
from_to low high (pos n) = if nat_le low n && nat_le n high then Ok n else Err Range
from_to low high (negsuc n) = Err Range

-- the number where it lies from -most to most
abbrev pub at_most : ℕ → ℤ → Result ℤ Fault
at_most most z = if nat_le (unsigned_abs z) most then Ok z else Err Range

-- the number of a word, which must write one
abbrev pub number_in : List ℕ → Result ℤ Fault
number_in word = ok_or (number word) BadLine

-- the numbers of all the words
abbrev pub numbers_in : List (List ℕ) → Result (List ℤ) Fault
numbers_in words = entries_from (λ i. number_in) 0 words
