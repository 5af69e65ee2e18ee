-- Polynomials over the integers, laid out as sums of sorted products for `omega`.
use Rattle.std.proofs.Common.{◌≡◌, ℤ, pos, negsuc, ◌+ℤ◌, ◌-ℤ◌, ◌*ℤ◌, neg_ℤ, ◌≤ℤ◌, ◌<ℤ◌, arith, ap, ◌∙◌, sym}
use Rattle.std.proofs.lemmas.Int.{ints}
use Rattle.carton_base.proofs.Products.{mul_add_right, mul_neg_right, mul_assoc_ℤ, mul_comm_ℤ, mul_le_right}
use Rattle.carton_base.proofs.Products.{le_cancel}
use borrow.Author.Differences.{same_out, same_in, le_out, lt_out, below_in, at_most_in, sum_is_lem, neg_is}

pub mul_add_left : (a b c : ℤ) → a *ℤ (b +ℤ c) ≡ a *ℤ b +ℤ a *ℤ c
mul_add_left a b c = mul_comm_ℤ a (b +ℤ c) ∙ mul_add_right b c a ∙ (λ i. mul_comm_ℤ b a i +ℤ mul_comm_ℤ c a i)

pub mul_neg_left : (a b : ℤ) → a *ℤ neg_ℤ b ≡ neg_ℤ (a *ℤ b)
mul_neg_left a b = mul_comm_ℤ a (neg_ℤ b) ∙ mul_neg_right b a ∙ ap neg_ℤ (mul_comm_ℤ b a)

pub mul_left_comm : (a b c : ℤ) → a *ℤ (b *ℤ c) ≡ b *ℤ (a *ℤ c)
mul_left_comm a b c = sym (mul_assoc_ℤ a b c) ∙ ap (λ z. z *ℤ c) (mul_comm_ℤ a b) ∙ mul_assoc_ℤ b a c

pub two_times : (a : ℤ) → pos 2 *ℤ a ≡ a +ℤ a
two_times a = omega (arith, ints)

pub times_two : (a : ℤ) → a *ℤ pos 2 ≡ a +ℤ a
times_two a = omega (arith, ints)

-- for `simp`: every product of sums becomes a sum of products whose factors are sorted
pub ruleset laid_out = (
  two_times,
  times_two,
  mul_add_right,
  mul_add_left,
  mul_neg_right,
  mul_neg_left,
  mul_assoc_ℤ,
  mul_comm_ℤ,
  mul_left_comm,
)

-- for `omega`: sums of such products
pub ruleset sums = (same_out, same_in, le_out, lt_out, below_in, at_most_in, sum_is_lem, neg_is)

pub nonneg_product : (a b : ℤ) → pos 0 ≤ℤ a → pos 0 ≤ℤ b → pos 0 ≤ℤ (a *ℤ b)
nonneg_product a b p q = omega (arith, ints, mul_le_right (pos 0) a b p q)

pub nonneg_square : (a : ℤ) → pos 0 ≤ℤ (a *ℤ a)
nonneg_square (pos n) = omega (arith, ints)
nonneg_square (negsuc n) = omega (arith, ints)

-- a number whose double is at most two others, both of which lie above q, times q is at most their product
pub mean_bound : (q h k z : ℤ) → pos 0 ≤ℤ q → q ≤ℤ h → q ≤ℤ k → (z +ℤ z) ≤ℤ (h +ℤ k) → (q *ℤ z) ≤ℤ (h *ℤ k)
mean_bound q h k z q0 qh qk zz =
    let a = simp laid_out at (nonneg_product q (h +ℤ k -ℤ (z +ℤ z)) q0 (omega (arith, sums))) in
    let b = simp laid_out at (nonneg_product (h -ℤ q) k (omega (arith, sums)) (omega (arith, sums))) in
    let e = simp laid_out at (nonneg_product (k -ℤ q) h (omega (arith, sums)) (omega (arith, sums))) in
    omega (arith, ints, a, b, e)

-- a positive factor can be taken away
pub cancel : (a b c : ℤ) → pos 0 <ℤ c → (a *ℤ c) ≤ℤ (b *ℤ c) → a ≤ℤ b
cancel a b (pos k) p h = le_cancel a b k (omega (arith, ints, p)) h
cancel a b (negsuc k) p h = absurd (omega (arith, ints, p))

pub positive_product : (a b : ℤ) → pos 0 <ℤ a → pos 0 <ℤ b → pos 0 <ℤ (a *ℤ b)
positive_product a b p q =
    let m =
    simp laid_out at (nonneg_product (a -ℤ pos 1) b (omega (arith, sums, p)) (omega (arith, sums, q))) in
    omega (arith, ints, m, q)
