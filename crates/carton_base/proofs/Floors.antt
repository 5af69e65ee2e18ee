-- Rounded quotients.
use Rattle.std.proofs.Common.{◌≡◌, ◌≢◌, ◌<◌, ℤ, pos, negsuc, ◌+ℤ◌, ◌*ℤ◌, ◌≤ℤ◌, ◌<ℤ◌, arith, SFits, to_z, of_z}
use Rattle.std.proofs.Common.{◌∙◌}
use Rattle.std.proofs.lemmas.Int.{ints, to_z-of_z}
use Rattle.std.specs.Int.{w128, int_div_euclid, int_rem_euclid}
use Rattle.carton_base.specs.Rounding.{IsFloor, IsCeil}
use Rattle.carton_base.proofs.Products.{mul_add_right}

-- quotient times divisor and rest, for a positive divisor
pub euclid_sum : (a b : ℤ) → pos 0 <ℤ b → int_div_euclid a b *ℤ b +ℤ int_rem_euclid a b ≡ a
euclid_sum (pos a) (pos b) p = let k : 0 < b = omega (arith, ints, p) in omega (arith, ints)
euclid_sum (negsuc a) (pos b) p = let k : 0 < b = omega (arith, ints, p) in omega (arith, ints)
euclid_sum (pos a) (negsuc b) p = absurd (omega (arith, ints, p))
euclid_sum (negsuc a) (negsuc b) p = absurd (omega (arith, ints, p))

pub rem_euclid_range : (a b : ℤ) → pos 0 <ℤ b → (pos 0 ≤ℤ int_rem_euclid a b) × (int_rem_euclid a b <ℤ b)
rem_euclid_range (pos a) (pos b) p = let k : 0 < b = omega (arith, ints, p) in
    (omega (arith, ints), omega (arith, ints))
rem_euclid_range (negsuc a) (pos b) p = let k : 0 < b = omega (arith, ints, p) in
    (omega (arith, ints), omega (arith, ints))
rem_euclid_range (pos a) (negsuc b) p = absurd (omega (arith, ints, p))
rem_euclid_range (negsuc a) (negsuc b) p = absurd (omega (arith, ints, p))

pub div_euclid_floor : (a b : ℤ) → pos 0 <ℤ b → IsFloor a b (int_div_euclid a b)
div_euclid_floor a b p =
    let e = euclid_sum a b p in
    let r = rem_euclid_range a b p in
    record { below = omega (arith, ints, e, r.0); next = omega (arith, ints, e, r.1) }

pub div_euclid_whole : (a b : ℤ) → pos 0 <ℤ b → int_rem_euclid a b ≡ pos 0 → IsCeil a b (int_div_euclid a b)
div_euclid_whole a b p z =
    let e = euclid_sum a b p in
    record { above = omega (arith, ints, e, z); last = omega (arith, ints, e, z, p) }

pub div_euclid_rest : (a b : ℤ) → pos 0 <ℤ b → int_rem_euclid a b ≢ pos 0
    → IsCeil a b (int_div_euclid a b +ℤ pos 1)
div_euclid_rest a b p z =
    let e = euclid_sum a b p in
    let r = rem_euclid_range a b p in
    let m = mul_add_right (int_div_euclid a b) (pos 1) b in
    record { above = omega (arith, ints, e, r.1, m); last = omega (arith, ints, e, r.0, z, m) }

-- what is true of two numbers as a call hands them over is true of them
pub unwrapped : (f : ℤ → ℤ → ℤ) (a b r : ℤ) → SFits w128 a → SFits w128 b
    → r ≡ f (to_z w128 (of_z w128 a)) (to_z w128 (of_z w128 b)) → r ≡ f a b
unwrapped f a b r x y e = e ∙ (λ i. f (to_z-of_z w128 a x i) (to_z-of_z w128 b y i))
