-- Numbers of sizes up to powers of two, and what is made of them, fit 128 bits.
use Rattle.std.proofs.Common.{ℕ, ◌+◌, ◌≤◌, ◌^◌, ℤ, ◌+ℤ◌, ◌*ℤ◌, unsigned_abs, SFits, arith}
use Rattle.std.specs.Int.{w128}
use Rattle.std.proofs.lemmas.Int.{ints, fits_signed_from_abs, unsigned_abs-mul}
use Rattle.std.proofs.lemmas.Nat.{mul-le, pow-add}
use Rattle.std.proofs.Math.Pow.{pow_mono}

pub product_size : (a b : ℤ) (m n : ℕ) → unsigned_abs a ≤ 2 ^ m → unsigned_abs b ≤ 2 ^ n
    → unsigned_abs (a *ℤ b) ≤ 2 ^ (m + n)
product_size a b m n p q =
    rw (unsigned_abs-mul a b, pow-add 2 m n) (mul-le (unsigned_abs a) (unsigned_abs b) (2 ^ m) (2 ^ n) p q)

pub product_fits : (a b : ℤ) (m n : ℕ) → unsigned_abs a ≤ 2 ^ m → unsigned_abs b ≤ 2 ^ n → m + n ≤ 126
    → SFits w128 (a *ℤ b)
product_fits a b m n p q room =
    let small : 2 ^ (m + n) ≤ 2 ^ 126 = pow_mono room in
    fits_signed_from_abs w128 (a *ℤ b) (omega (arith, product_size a b m n p q, small))

pub size_within : (a : ℤ) (n : ℕ) → unsigned_abs a ≤ 2 ^ n → n ≤ 125 → unsigned_abs a ≤ 2 ^ 125
size_within a n p room = let small : 2 ^ n ≤ 2 ^ 125 = pow_mono room in omega (arith, small, p)

pub sum_fits : (a b : ℤ) (n : ℕ) → unsigned_abs a ≤ 2 ^ n → unsigned_abs b ≤ 2 ^ n → n ≤ 125
    → SFits w128 (a +ℤ b)
sum_fits a b n p q room = omega (arith, ints, size_within a n p room, size_within b n q room)
