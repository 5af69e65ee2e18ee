-- What the code's tests of signed numbers tell.
use Rattle.std.proofs.Common.{arith, ◌≡◌, SFits, ℤ, pos, negsuc, of_z, to_z, ap, sym, ◌∙◌, eqb, ◌≤ℤ◌, ◌<ℤ◌}
use Rattle.std.proofs.Common.{true, false}
use Rattle.std.specs.Bool.{Decides}
use Rattle.std.specs.Ordering.{int_eq}
use lib.Signed.{lt_z}
use Rattle.std.proofs.lemmas.Bool.Decides.{same_from_decides, Decides-like, Decides-eqb, Decides-int_eq}
use Rattle.std.specs.Int.{w128}
use Rattle.std.proofs.lemmas.Int.{ints, to_z-of_z}

pub below_zero : (a : ℤ) → lt_z a (pos 0) ≡ true → ¬ (pos 0 ≤ℤ a)
below_zero a h k = grind (arith, ints)

pub not_below : (a : ℤ) → lt_z a (pos 0) ≡ false → pos 0 ≤ℤ a
not_below a h = grind (arith, ints)

pub above_zero : (a : ℤ) → lt_z (pos 0) a ≡ true → pos 0 <ℤ a
above_zero a h = grind (arith, ints)

pub not_above : (a : ℤ) → lt_z (pos 0) a ≡ false → ¬ (pos 0 <ℤ a)
not_above a h k = grind (arith, ints)

-- the code's test for zero is that of integers
pub same_zero_test : (z : ℤ) → SFits w128 z → eqb (of_z w128 z) 0 ≡ int_eq z (pos 0)
same_zero_test z f =
    same_from_decides _ _ (Decides-like _ (λ e. zero_bits z f e) (λ e. ap (of_z w128) e)
    (Decides-eqb (of_z w128 z) 0)) (Decides-int_eq z (pos 0))
  where
    zero_bits : (z : ℤ) → SFits w128 z → of_z w128 z ≡ 0 → z ≡ pos 0
    zero_bits (pos n) f e = ap pos e
    zero_bits (negsuc n) f e = absurd (omega (arith, ints, f.sfits, e))

-- and its test for equal numbers
pub Decides-same_bits : (a b : ℤ) → SFits w128 a → SFits w128 b
    → Decides (eqb (of_z w128 a) (of_z w128 b)) (a ≡ b)
Decides-same_bits a b f g =
    Decides-like _ (λ e. sym (to_z-of_z w128 a f) ∙ ap (to_z w128) e ∙ to_z-of_z w128 b g)
    (λ e. ap (of_z w128) e) (Decides-eqb (of_z w128 a) (of_z w128 b))

pub less_from_test : (a b : ℤ) → lt_z a b ≡ true → a <ℤ b
less_from_test a b h = grind (arith, ints)

pub test_from_less : (a b : ℤ) → a <ℤ b → lt_z a b ≡ true
test_from_less a b h = grind (arith, ints)
