-- The half pair of a fold, case by case, and its cosine and sine.
use Rattle.std.proofs.Common.{◌≡◌, ℕ, ◌*◌, ◌≤◌, ◌<◌, Bool, true, false, cond, refl, ◌∙◌}
use Rattle.std.proofs.Common.{ℤ, pos, negsuc, neg_ℤ, ◌+ℤ◌, ◌-ℤ◌, ◌*ℤ◌, ◌≤ℤ◌, ◌<ℤ◌}
use Rattle.std.proofs.Common.{unsigned_abs, arith}
use Rattle.std.proofs.lemmas.Int.{ints, by_lt_z}
use Rattle.std.proofs.lemmas.Bool.{le-leb}
use borrow.Author.Tests.{lt-leb}
use Rattle.carton_model.specs.HalfTurns.{is_slight, with_sign, half_cosine, half_sine, cosine, sine}
use Rattle.carton_model.specs.HalfTurns.{square_sum}
use Rattle.carton_base.proofs.Polynomials.{nonneg_square}

pub record Halves (n : ℤ) (d : ℕ) (c s : ℤ) : Type 0 where
  pub first : half_cosine n d ≡ c
  pub second : half_sine n d ≡ s

half_at : (n : ℤ) (d : ℕ) (t : Bool) → is_slight n d ≡ t
    → Halves n d (cond t (pos d) (pos (2 * d) -ℤ pos (unsigned_abs n))) (cond t n (with_sign n d))
unfolding half_cosine half_sine
half_at n d t e = record {
  first = λ i. cond (e i) (pos d) (pos (2 * d) -ℤ pos (unsigned_abs n));
  second = λ i. cond (e i) n (with_sign n d);
}

pub half_middle : (n : ℤ) (d : ℕ) → unsigned_abs n ≤ d → Halves n d (pos d) n
half_middle n d h = half_at n d true (le-leb (unsigned_abs n) d h)

half_past : (n : ℤ) (d : ℕ) → d < unsigned_abs n
    → Halves n d (pos (2 * d) -ℤ pos (unsigned_abs n)) (with_sign n d)
half_past n d h = half_at n d false (lt-leb (unsigned_abs n) d h)

sign_up : (n : ℤ) (d : ℕ) → pos 0 ≤ℤ n → with_sign n d ≡ pos d
sign_up (pos n) d h = refl
sign_up (negsuc n) d h = absurd (omega (arith, ints))

sign_down : (n : ℤ) (d : ℕ) → n <ℤ pos 0 → with_sign n d ≡ neg_ℤ (pos d)
sign_down (pos n) d h = absurd (omega (arith, ints))
sign_down (negsuc n) d h = refl

pub half_over : (n : ℤ) (d : ℕ) → pos d ≤ℤ n → Halves n d (pos d +ℤ pos d -ℤ n) (pos d)
half_over n d h = by_lt_z (pos d) n
    (λ s. let p = half_past n d (omega (arith, ints, s)) in
    record { first = p.first ∙ omega (arith, ints); second = p.second ∙ sign_up n d (omega (arith, ints)) })
    (λ s. let p = half_middle n d (omega (arith, ints, s)) in
    record { first = p.first ∙ omega (arith, ints); second = p.second ∙ omega (arith, ints) })

pub half_under : (n : ℤ) (d : ℕ) → n ≤ℤ neg_ℤ (pos d) → Halves n d (pos d +ℤ pos d +ℤ n) (neg_ℤ (pos d))
half_under n d h = by_lt_z n (neg_ℤ (pos d))
    (λ s. let p = half_past n d (omega (arith, ints, s)) in
    let t = sign_down n d (omega (arith, ints, s)) in
    record { first = p.first ∙ omega (arith, ints); second = p.second ∙ t })
    (λ s. let p = half_middle n d (omega (arith, ints, s)) in
    record { first = p.first ∙ omega (arith, ints); second = p.second ∙ omega (arith, ints) })

pub cosine_is : (n : ℤ) (d : ℕ) → cosine n d ≡ half_cosine n d *ℤ half_cosine n d
    -ℤ half_sine n d *ℤ half_sine n d
unfolding cosine
cosine_is n d = refl

pub sine_is : (n : ℤ) (d : ℕ) → sine n d ≡ pos 2 *ℤ (half_cosine n d *ℤ half_sine n d)
unfolding sine
sine_is n d = refl

pub square_sum_is : (n : ℤ) (d : ℕ) → pos (square_sum n d) ≡ half_cosine n d *ℤ half_cosine n d
    +ℤ half_sine n d *ℤ half_sine n d
unfolding square_sum
square_sum_is n d = abs_of_sum (half_cosine n d *ℤ half_cosine n d) (half_sine n d *ℤ half_sine n d)
    (nonneg_square (half_cosine n d)) (nonneg_square (half_sine n d))
  where
    abs_of_sum : (a b : ℤ) → pos 0 ≤ℤ a → pos 0 ≤ℤ b → pos (unsigned_abs (a +ℤ b)) ≡ a +ℤ b
    abs_of_sum a b p q = omega (arith, ints)
