-- A direction that parts three positions from another one parts each mean of theirs from it.
use Rattle.std.proofs.Common.{◌≡◌, ap, ℕ, ◌<◌, ℤ, pos, ◌+ℤ◌, ◌-ℤ◌, ◌*ℤ◌, ◌<ℤ◌, arith}
use Rattle.std.proofs.lemmas.Int.{ints, by_lt_z}
use Rattle.carton_base.proofs.Products.{mul_le_right}
use Rattle.carton_base.proofs.Polynomials.{laid_out, sums, positive_product}
use Rattle.carton_model.specs.Parting.{Position, along}
use Rattle.carton_reach.specs.Beyond.{IsBeyond}
use Rattle.carton_part.proofs.Linear.{IsSum, AreSums, sum_mixed}

-- p is a mean of three positions: a positive multiple of it is a sum of whole multiples of theirs
pub record IsMeanOfThree (p a b c : Position) : Type 0 where
  pub k : ℕ
  pub l : ℕ
  pub m : ℕ
  pub n : ℕ
  pub some : 0 < k
  pub sums : AreSums (pos k) (pos l) (pos m) (pos n) p a b c

-- a mean of three positive numbers is positive, where some multiplier is
positive_mean : (k l m n : ℕ) (z a b c : ℤ) → 0 < k → pos 0 <ℤ (pos l +ℤ pos m +ℤ pos n)
    → IsSum (pos k) (pos l) (pos m) (pos n) z a b c → pos 0 <ℤ a → pos 0 <ℤ b → pos 0 <ℤ c → pos 0 <ℤ z
positive_mean k l m n z a b c pk some e pa pb pc = by_lt_z (pos 0) z (λ h. h) (λ le.
    let la = mul_le_right (pos 1) a (pos l) (omega (arith, ints, pa)) (omega (arith, ints)) in
    let mb = mul_le_right (pos 1) b (pos m) (omega (arith, ints, pb)) (omega (arith, ints)) in
    let nc = mul_le_right (pos 1) c (pos n) (omega (arith, ints, pc)) (omega (arith, ints)) in
    let kz = mul_le_right z (pos 0) (pos k) le (omega (arith, ints, pk)) in
    absurd (omega (arith, ints, la, mb, nc, kz, e, some)))

-- some multiplier of a mean is positive
some_multiplier : (k l m n : ℕ) (w a b c : ℤ) → 0 < k → pos 0 <ℤ w
    → IsSum (pos k) (pos l) (pos m) (pos n) w a b c → pos 0 <ℤ (pos l +ℤ pos m +ℤ pos n)
some_multiplier k l m n w a b c pk pw e = by_lt_z (pos 0) (pos l +ℤ pos m +ℤ pos n) (λ h. h) (λ le.
    let zl : pos l ≡ pos 0 = omega (arith, ints, le) in
    let zm : pos m ≡ pos 0 = omega (arith, ints, le) in
    let zn : pos n ≡ pos 0 = omega (arith, ints, le) in
    absurd (omega (
      arith,
      ints,
      positive_product (pos k) w (omega (arith, ints, pk)) pw,
      e,
      ap (λ z. z *ℤ a)
          zl,
      ap (λ z. z *ℤ b) zm,
      ap (λ z. z *ℤ c) zn,
    )))

-- by how much (y, w) lies farther than (x, v), each along a direction, in halves: linear in the one and in
-- the other
abbrev farther_by : ℤ → ℤ → ℤ → ℤ → ℤ → ℤ
farther_by g x v y w = pos 2 *ℤ (y *ℤ v) -ℤ (pos 2 *ℤ (x *ℤ w) +ℤ g *ℤ (v *ℤ w))

more : (a b : ℤ) → a <ℤ b → pos 0 <ℤ (b -ℤ a)
more a b h = omega (arith, ints, h)

less : (a b : ℤ) → pos 0 <ℤ (b -ℤ a) → a <ℤ b
less a b h = omega (arith, ints, h)

linear_in_first : (g y w k l m n x v xa va xb vb xc vc : ℤ) → IsSum k l m n x xa xb xc
    → IsSum k l m n v va vb vc
    → IsSum k l m n (farther_by g x v y w) (farther_by g xa va y w) (farther_by g xb vb y w) (farther_by g xc
    vc y w)
linear_in_first g y w k l m n x v xa va xb vb xc vc ex ev =
    let a = simp laid_out at (ap (λ z. z *ℤ y) ev) in
    let b = simp laid_out at (ap (λ z. z *ℤ w) ex) in
    let c = simp laid_out at (ap (λ z. z *ℤ (g *ℤ w)) ev) in
    simp laid_out (omega (arith, sums, a, b, c))

linear_in_second : (g x v k l m n y w ya wa yb wb yc wc : ℤ) → IsSum k l m n y ya yb yc
    → IsSum k l m n w wa wb wc
    → IsSum k l m n (farther_by g x v y w) (farther_by g x v ya wa) (farther_by g x v yb wb) (farther_by g x v
    yc wc)
linear_in_second g x v k l m n y w ya wa yb wb yc wc ey ew =
    let a = simp laid_out at (ap (λ z. z *ℤ v) ey) in
    let b = simp laid_out at (ap (λ z. z *ℤ x) ew) in
    let c = simp laid_out at (ap (λ z. z *ℤ (g *ℤ v)) ew) in
    simp laid_out (omega (arith, sums, a, b, c))

along_sum : (u v t k l m n : ℤ) (p a b c : Position) → AreSums k l m n p a b c
    → IsSum k l m n (along u v t p) (along u v t a) (along u v t b) (along u v t c)
along_sum u v t k l m n p a b c h = sum_mixed u v t k l m n p.x p.y p.z a.x a.y a.z b.x b.y b.z c.x c.y c.z
    h.x h.y h.z

pub first_mean : (halves u v t : ℤ) (p a b c q : Position) → pos 0 <ℤ p.w → IsMeanOfThree p a b c
    → IsBeyond halves u v t a q → IsBeyond halves u v t b q → IsBeyond halves u v t c q
    → IsBeyond halves u v t p q
first_mean halves u v t p a b c q w h fa fb fc =
    let some = some_multiplier h.k h.l h.m h.n p.w a.w b.w c.w h.some w h.sums.w in
    let e = linear_in_first halves (along u v t q) q.w (pos h.k) (pos h.l) (pos h.m) (pos h.n) (along u v t p)
    p.w (along u v t a) a.w (along u v t b) b.w (along u v t c) c.w
    (along_sum u v t _ _ _ _ p a b c h.sums) h.sums.w in
    less _ _ (positive_mean h.k h.l h.m h.n _ _ _ _ h.some some e (more _ _ fa) (more _ _ fb) (more _ _ fc))

pub second_mean : (halves u v t : ℤ) (p q a b c : Position) → pos 0 <ℤ q.w → IsMeanOfThree q a b c
    → IsBeyond halves u v t p a → IsBeyond halves u v t p b → IsBeyond halves u v t p c
    → IsBeyond halves u v t p q
second_mean halves u v t p q a b c w h fa fb fc =
    let some = some_multiplier h.k h.l h.m h.n q.w a.w b.w c.w h.some w h.sums.w in
    let e = linear_in_second halves (along u v t p) p.w (pos h.k) (pos h.l) (pos h.m) (pos h.n)
    (along u v t q) q.w (along u v t a) a.w (along u v t b) b.w (along u v t c) c.w
    (along_sum u v t _ _ _ _ q a b c h.sums) h.sums.w in
    less _ _ (positive_mean h.k h.l h.m h.n _ _ _ _ h.some some e (more _ _ fa) (more _ _ fb) (more _ _ fc))
