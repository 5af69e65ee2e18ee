-- What a quotient rounded toward zero, and what it leaves, say of those rounded down and up.
use Rattle.std.proofs.Common.{◌≡◌, ℤ, pos, ◌+ℤ◌, ◌-ℤ◌, ◌*ℤ◌, ◌≤ℤ◌, ◌<ℤ◌, arith}
use Rattle.std.proofs.lemmas.Int.{ints}
use Rattle.carton_base.specs.Rounding.{IsFloor, IsCeil}
use Rattle.carton_base.proofs.Products.{mul_add_right, mul_sub_right}

pub floor_at : (a b q r : ℤ) → q *ℤ b +ℤ r ≡ a → pos 0 ≤ℤ r → r <ℤ b → IsFloor a b q
floor_at a b q r e r0 rb = record { below = omega (arith, ints, e); next = omega (arith, ints, e) }

pub floor_before : (a b q r : ℤ) → q *ℤ b +ℤ r ≡ a → r <ℤ pos 0 → (pos 0 -ℤ b) ≤ℤ r → IsFloor a b (q -ℤ pos 1)
floor_before a b q r e r0 rb = let m = mul_sub_right q (pos 1) b in
    record { below = omega (arith, ints, e, m); next = omega (arith, ints, e, m) }

pub ceil_at : (a b q r : ℤ) → q *ℤ b +ℤ r ≡ a → r ≤ℤ pos 0 → (pos 0 -ℤ b) <ℤ r → IsCeil a b q
ceil_at a b q r e r0 rb = record { above = omega (arith, ints, e); last = omega (arith, ints, e) }

pub ceil_after : (a b q r : ℤ) → q *ℤ b +ℤ r ≡ a → pos 0 <ℤ r → r ≤ℤ b → IsCeil a b (q +ℤ pos 1)
ceil_after a b q r e r0 rb = let m = mul_add_right q (pos 1) b in
    record { above = omega (arith, ints, e, m); last = omega (arith, ints, e, m) }
