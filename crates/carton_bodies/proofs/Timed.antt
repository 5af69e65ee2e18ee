-- The times of a piece, by its length.
use Rattle.std.proofs.Common.{◌≡◌, ◌∙◌, ap, sym, subst, ℕ, ◌+◌, ◌-◌, ◌*◌, ◌^◌, ◌≤◌, ℤ, pos, ◌+ℤ◌, ◌*ℤ◌, ◌≤ℤ◌}
use Rattle.std.proofs.Common.{◌<ℤ◌, unsigned_abs, arith}
use Rattle.std.proofs.lemmas.Int.{ints, by_lt_z}
use Rattle.std.proofs.lemmas.Nat.{pow-add}
use Rattle.std.proofs.Math.Pow.{pow_mono}
use Rattle.carton_base.proofs.Products.{mul_add_right, mul_le_right}
use Rattle.carton_base.proofs.Polynomials.{laid_out, sums, cancel}
use Rattle.carton_base.specs.Rounding.{IsFloor, unit}
use Rattle.carton_part.proofs.Walks.{power_some}

-- a whole quotient is its floor
whole : (k p q : ℤ) → pos 0 <ℤ p → IsFloor (k *ℤ p) p q → q ≡ k
whole k p q some h =
    let low : q ≤ℤ k = cancel q k p some h.below in
    let next : (k *ℤ p) <ℤ ((q +ℤ pos 1) *ℤ p) = let n = h.next in
    omega (arith, ints, n, mul_add_right q (pos 1) p) in
    let high : k ≤ℤ q = not_above k q p some next in
    omega (arith, ints, low, high)
  where
    not_above : (k q p : ℤ) → pos 0 <ℤ p → (k *ℤ p) <ℤ ((q +ℤ pos 1) *ℤ p) → k ≤ℤ q
    not_above k q p some h =
        by_lt_z k (q +ℤ pos 1) (λ l. omega (arith, ints, l))
        (λ l. absurd (omega (arith, ints, h, mul_le_right (q +ℤ pos 1) k p l (omega (arith, ints, some)))))

powers : (depth : ℕ) → depth ≤ 36 → pos (2 ^ (40 - depth)) *ℤ pos (2 ^ depth) ≡ unit
powers depth h =
    let e : (40 - depth) + depth ≡ 40 = omega (arith, h) in
    let p : 2 ^ (40 - depth) * 2 ^ depth ≡ 2 ^ 40 = sym (pow-add 2 (40 - depth) depth) ∙ ap (λ k. 2 ^ k) e in
    ap (λ k. pos k) p

-- 2^40 over a power of two is a power of two
length_is : (depth : ℕ) (q : ℤ) → depth ≤ 36 → IsFloor unit (pos (2 ^ depth)) q → q ≡ pos (2 ^ (40 - depth))
length_is depth q h f =
    let some : pos 0 <ℤ pos (2 ^ depth) = let s = power_some depth in omega (arith, ints, s) in
    whole (pos (2 ^ (40 - depth))) (pos (2 ^ depth)) q some
    (subst (λ z. IsFloor z (pos (2 ^ depth)) q) (sym (powers depth h)) f)

pub unit_over : (depth : ℕ) (q : ℤ) → depth ≤ 36 → IsFloor unit (pos (2 ^ depth)) q → q *ℤ pos (2 ^ depth)
    ≡ unit
unit_over depth q h f = ap (λ z. z *ℤ pos (2 ^ depth)) (length_is depth q h f) ∙ powers depth h

pub length_small : (depth : ℕ) (q : ℤ) → depth ≤ 36 → IsFloor unit (pos (2 ^ depth)) q
    → unsigned_abs q ≤ 2 ^ 40
length_small depth q h f =
    let l : 2 ^ (40 - depth) ≤ 2 ^ 40 = pow_mono {i = 40 - depth} {j = 40} (omega arith) in
    let e = ap unsigned_abs (length_is depth q h f) in
    omega (arith, l, e)

-- the time at which a piece begins, over the length of all pieces of its depth
pub begins : (i x p u l t : ℤ) → l *ℤ p ≡ u → t ≡ i *ℤ u +ℤ x *ℤ l → t *ℤ p ≡ (i *ℤ p +ℤ x) *ℤ u
begins i x p u l t el et =
    let a = simp laid_out at (ap (λ z. z *ℤ p) et) in
    let b = simp laid_out at (ap (λ z. z *ℤ x) el) in
    simp laid_out (omega (arith, sums, a, b))
