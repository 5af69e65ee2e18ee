-- Bounds of two positions along a direction, and how far the one lies beyond the other.
use Rattle.std.proofs.Common.{◌≡◌, ℤ, pos, ◌+ℤ◌, ◌-ℤ◌, ◌*ℤ◌, neg_ℤ, ◌≤ℤ◌, ◌<ℤ◌, arith}
use Rattle.std.proofs.lemmas.Int.{ints, by_lt_z}
use Rattle.carton_base.proofs.Products.{mul_le_right, mul_neg_right}
use Rattle.carton_base.proofs.Polynomials.{laid_out, sums, cancel, positive_product}

lt_cancel : (a b c : ℤ) → pos 0 ≤ℤ c → (a *ℤ c) <ℤ (b *ℤ c) → a <ℤ b
lt_cancel a b c p h = by_lt_z a b (λ l. l) (λ le. absurd (omega (arith, ints, h, mul_le_right b a c le p)))

-- x / v and y / w are positions along a direction, in units of h + h to one whole; k counts halves
pub far_apart : (x y high low k v w h : ℤ) → pos 0 <ℤ v → pos 0 <ℤ w → pos 0 <ℤ h
    → (x *ℤ (h +ℤ h)) ≤ℤ (high *ℤ v) → (low *ℤ w) ≤ℤ (y *ℤ (h +ℤ h)) → (high +ℤ k *ℤ h) <ℤ low
    → (pos 2 *ℤ (x *ℤ w) +ℤ k *ℤ (v *ℤ w)) <ℤ (pos 2 *ℤ (y *ℤ v))
far_apart x y high low k v w h pv pw ph hx hy hk =
    let nv : pos 0 ≤ℤ v = omega (arith, ints, pv) in
    let nw : pos 0 ≤ℤ w = omega (arith, ints, pw) in
    let nh : pos 0 ≤ℤ h = omega (arith, ints, ph) in
    let vw : pos 0 <ℤ (v *ℤ w) = positive_product v w pv pw in
    let a = simp laid_out at (mul_le_right (x *ℤ (h +ℤ h)) (high *ℤ v) w hx nw) in
    let b = simp laid_out at (mul_le_right (low *ℤ w) (y *ℤ (h +ℤ h)) v hy nv) in
    let c = simp laid_out at (positive_product (low -ℤ (high +ℤ k *ℤ h)) (v *ℤ w) (omega (arith, sums, hk))
    vw) in
    lt_cancel _ _ h nh (simp laid_out (omega (arith, sums, a, b, c)))

pub not_far : (x y high low k v w h : ℤ) → pos 0 <ℤ v → pos 0 <ℤ w → pos 0 <ℤ h
    → (low *ℤ v) ≤ℤ (x *ℤ (h +ℤ h)) → (y *ℤ (h +ℤ h)) ≤ℤ (high *ℤ w) → high ≤ℤ (low +ℤ k *ℤ h)
    → (pos 2 *ℤ (y *ℤ v)) ≤ℤ (pos 2 *ℤ (x *ℤ w) +ℤ k *ℤ (v *ℤ w))
not_far x y high low k v w h pv pw ph hx hy hk =
    let nv : pos 0 ≤ℤ v = omega (arith, ints, pv) in
    let nw : pos 0 ≤ℤ w = omega (arith, ints, pw) in
    let nvw : pos 0 ≤ℤ (v *ℤ w) = omega (arith, ints, positive_product v w pv pw) in
    let a = simp laid_out at (mul_le_right (low *ℤ v) (x *ℤ (h +ℤ h)) w hx nw) in
    let b = simp laid_out at (mul_le_right (y *ℤ (h +ℤ h)) (high *ℤ w) v hy nv) in
    let c = simp laid_out at (mul_le_right high (low +ℤ k *ℤ h) (v *ℤ w) hk nvw) in
    cancel _ _ h ph (simp laid_out (omega (arith, sums, a, b, c)))

-- the same along the negation of the direction, where the second position is the first there
pub far_back : (x y k v w : ℤ) → (pos 2 *ℤ (y *ℤ v) +ℤ k *ℤ (w *ℤ v)) <ℤ (pos 2 *ℤ (x *ℤ w))
    → (pos 2 *ℤ (neg_ℤ x *ℤ w) +ℤ k *ℤ (v *ℤ w)) <ℤ (pos 2 *ℤ (neg_ℤ y *ℤ v))
far_back x y k v w h = let l = simp laid_out at h in simp laid_out (omega (arith, sums, l))

pub not_far_back : (x y k v w : ℤ) → (pos 2 *ℤ (neg_ℤ x *ℤ w)) ≤ℤ (pos 2 *ℤ (neg_ℤ y *ℤ v) +ℤ k *ℤ (w *ℤ v))
    → (pos 2 *ℤ (y *ℤ v)) ≤ℤ (pos 2 *ℤ (x *ℤ w) +ℤ k *ℤ (v *ℤ w))
not_far_back x y k v w h = let l = simp laid_out at h in simp laid_out (omega (arith, sums, l))

pub not_less : (a b : ℤ) → a ≤ℤ b → ¬ (b <ℤ a)
not_less a b h l = omega (arith, ints, h, l)

pub turned : (u v t x y z : ℤ) → neg_ℤ u *ℤ x +ℤ neg_ℤ v *ℤ y +ℤ neg_ℤ t *ℤ z
    ≡ neg_ℤ (u *ℤ x +ℤ v *ℤ y +ℤ t *ℤ z)
turned u v t x y z = omega (arith, ints, mul_neg_right u x, mul_neg_right v y, mul_neg_right t z)
