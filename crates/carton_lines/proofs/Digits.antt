-- The number that digits write, kept within 64 bits.
use Rattle.std.proofs.Common.{◌≡◌, ℕ, ◌+◌, ◌-◌, ◌*◌, ◌<◌, min, List, length, get_or, take, true, sym, ap, ◌∙◌}
use Rattle.std.proofs.Common.{arith}
use Rattle.std.specs.Char.{digit_value, is_ascii_digit}
use Rattle.std.specs.Int.{IsInRange}
use Rattle.std.specs.List.{list_all}
use Rattle.std.specs.Str.Parse.{digits_value}
use Rattle.std.proofs.lemmas.Bool.Decides.{nat_tests}
use Rattle.std.proofs.lemmas.Int.Digits.{digits_value_more}
use Rattle.std.proofs.lemmas.List.Sums.{AllPass-from_list_all}
use Rattle.std.proofs.lemmas.Str.{digit_value_digit}

is_range : (c : ℕ) → is_ascii_digit c ≡ true → IsInRange 48 57 c
is_range c h = grind (arith, nat_tests)

-- a digit more, where the number so far is kept below m
kept : (m v d s : ℕ) → s ≡ min v m → min (s * 10 + d) m ≡ min (v * 10 + d) m
kept m v d s is = omega arith

pub one_more : (ds : List ℕ) (i s m : ℕ) → list_all is_ascii_digit ds ≡ true → i < length ds
    → s ≡ min (digits_value 10 (take i ds)) m
    → min (s * 10 + (get_or ds i 0 - 48)) m ≡ min (digits_value 10 (take (i + 1) ds)) m
one_more ds i s m digits lt so_far =
    let digit = digit_value_digit (get_or ds i 0)
    (is_range _ (AllPass-from_list_all is_ascii_digit ds digits i 0 lt)) in
    let value : digit_value (get_or ds i 0) ≡ get_or ds i 0 - 48 = omega arith in
    kept m (digits_value 10 (take i ds)) (get_or ds i 0 - 48) s so_far
    ∙ ap (λ n. min n m) (ap (λ d. digits_value 10 (take i ds) * 10 + d) (sym value)
    ∙ sym (digits_value_more 10 ds i lt))
