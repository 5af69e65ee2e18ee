-- The coordinates of a near point, rounded both ways.
use Rattle.std.proofs.Common.{ℕ, ◌*◌, ◌^◌, ◌<◌, ◌≤◌, ℤ, pos, neg_ℤ, ◌+ℤ◌, ◌-ℤ◌, ◌*ℤ◌, ◌≤ℤ◌, ◌<ℤ◌}
use Rattle.std.proofs.Common.{unsigned_abs, arith}
use Rattle.std.proofs.lemmas.Int.{ints, by_lt_z}
use Rattle.carton_base.specs.Rounding.{IsBetween}
use Rattle.carton_base.specs.Fractions.{IsRounded}
use Rattle.carton_base.proofs.Products.{mul_add_right, mul_sub_right, mul_le_right}
use Rattle.carton_enclose.specs.Held.{size_of, spread_of}

-- a factor can be taken away from a strict order
cancel_strict : (a b : ℤ) (v : ℕ) → (a *ℤ pos v) <ℤ (b *ℤ pos v) → a <ℤ b
cancel_strict a b v h =
    by_lt_z a b (λ l. l)
    (λ l. absurd (let m = mul_le_right b a (pos v) (omega (arith, ints, l)) (omega (arith, ints)) in
    omega (arith, ints, m, h)))

-- whole units k bound what is rounded down and up, where they bound the number
pub rounded_size : (x : ℤ) (v : ℕ) (lo hi : ℤ) → 0 < v → unsigned_abs x ≤ 8191 * v → IsRounded x v lo hi
    → size_of lo hi ≤ 8191 * 2 ^ 40
rounded_size x v lo hi p near r =
    let k : ℤ = pos (8191 * 2 ^ 40) in
    let low : (neg_ℤ k *ℤ pos v) <ℤ ((lo +ℤ pos 1) *ℤ pos v) =
    omega (arith, ints, near, p, r.down.next, mul_add_right lo (pos 1) (pos v)) in
    let high : ((hi -ℤ pos 1) *ℤ pos v) <ℤ (k *ℤ pos v) =
    omega (arith, ints, near, p, r.up.last, mul_sub_right hi (pos 1) (pos v)) in
    let top : (lo *ℤ pos v) <ℤ ((k +ℤ pos 1) *ℤ pos v) =
    omega (arith, ints, near, p, r.down.below, mul_add_right k (pos 1) (pos v)) in
    let bottom : ((neg_ℤ k -ℤ pos 1) *ℤ pos v) <ℤ (hi *ℤ pos v) =
    omega (arith, ints, near, p, r.up.above, mul_sub_right (neg_ℤ k) (pos 1) (pos v)) in
    let a = cancel_strict (neg_ℤ k) (lo +ℤ pos 1) v low in
    let b = cancel_strict (hi -ℤ pos 1) k v high in
    let c = cancel_strict lo (k +ℤ pos 1) v top in
    let d = cancel_strict (neg_ℤ k -ℤ pos 1) hi v bottom in
    omega (arith, ints, a, b, c, d)

pub rounded_spread : (x : ℤ) (v : ℕ) (lo hi : ℤ) → lo ≤ℤ hi → IsRounded x v lo hi → spread_of lo hi ≤ 1
rounded_spread x v lo hi o r =
    let close : ((hi -ℤ pos 1) *ℤ pos v) <ℤ ((lo +ℤ pos 1) *ℤ pos v) =
    omega (
      arith,
      ints,
      r.down.next,
      r.up.last,
      mul_sub_right hi (pos 1) (pos v),
      mul_add_right lo (pos 1)
          (pos v),
    ) in
    let a = cancel_strict (hi -ℤ pos 1) (lo +ℤ pos 1) v close in
    omega (arith, ints, a, o)

pub rounded_between : (x : ℤ) (v : ℕ) (lo hi : ℤ) → IsRounded x v lo hi → IsBetween lo hi x v
rounded_between x v lo hi r = record { from = r.down.below; upto = r.up.above }
