-- Positions that stand at one place, and turns of them.
use Rattle.std.proofs.Common.{◌≡◌, ◌∙◌, refl, sym, ap, ℕ, List, ℤ, pos, ◌*ℤ◌, ◌<ℤ◌, arith}
use Rattle.std.proofs.lemmas.Int.{ints}
use Rattle.carton_base.proofs.Products.{mul_assoc_ℤ}
use Rattle.carton_base.proofs.Polynomials.{laid_out, sums, mul_left_comm, positive_product, cancel}
use Rattle.carton_base.specs.declared.motion.Turn.{Turn}
use Rattle.carton_model.specs.HalfTurns.{Fold}
use Rattle.carton_model.specs.Parting.{Position, along}
use Rattle.carton_model.specs.Turning.{placed}
use Rattle.carton_reach.specs.Beyond.{IsBeyond}
use Rattle.carton_part.specs.Meeting.{IsSamePlace}
use Rattle.carton_part.proofs.Linear.{IsSum, sum_mixed, sum_placed}

-- positive multiples of the two positions are equal
pub record AreAlike (p q : Position) : Type 0 where
  pub k : ℤ
  pub l : ℤ
  pub some_k : pos 0 <ℤ k
  pub some_l : pos 0 <ℤ l
  pub x : k *ℤ p.x ≡ l *ℤ q.x
  pub y : k *ℤ p.y ≡ l *ℤ q.y
  pub z : k *ℤ p.z ≡ l *ℤ q.z
  pub w : k *ℤ p.w ≡ l *ℤ q.w

pub alike_self : (p : Position) → AreAlike p p
alike_self p = record {
  k = pos 1;
  l = pos 1;
  some_k = omega (arith, ints);
  some_l = omega (arith, ints);
  x = refl;
  y = refl;
  z = refl;
  w = refl;
}

pub alike_back : (p q : Position) → AreAlike p q → AreAlike q p
alike_back p q h = record {
  k = h.l;
  l = h.k;
  some_k = h.some_l;
  some_l = h.some_k;
  x = sym h.x;
  y = sym h.y;
  z = sym h.z;
  w = sym h.w;
}

times_on : (k l k' l' p q r : ℤ) → k *ℤ p ≡ l *ℤ q → k' *ℤ q ≡ l' *ℤ r → (k' *ℤ k) *ℤ p ≡ (l *ℤ l') *ℤ r
times_on k l k' l' p q r h j = mul_assoc_ℤ k' k p ∙ ap (λ z. k' *ℤ z) h ∙ mul_left_comm k' l q
    ∙ ap (λ z. l *ℤ z) j ∙ sym (mul_assoc_ℤ l l' r)

pub alike_on : (p q r : Position) → AreAlike p q → AreAlike q r → AreAlike p r
alike_on p q r h j = record {
  k = j.k *ℤ h.k;
  l = h.l *ℤ j.l;
  some_k = positive_product j.k h.k j.some_k h.some_k;
  some_l = positive_product h.l j.l h.some_l j.some_l;
  x = times_on h.k h.l j.k j.l p.x q.x r.x h.x j.x;
  y = times_on h.k h.l j.k j.l p.y q.y r.y h.y j.y;
  z = times_on h.k h.l j.k j.l p.z q.z r.z h.z j.z;
  w = times_on h.k h.l j.k j.l p.w q.w r.w h.w j.w;
}

as_sum : (k l p q : ℤ) → k *ℤ p ≡ l *ℤ q → IsSum k l (pos 0) (pos 0) p q q q
as_sum k l p q h = omega (arith, ints, h)

from_sum : (k l p q : ℤ) → IsSum k l (pos 0) (pos 0) p q q q → k *ℤ p ≡ l *ℤ q
from_sum k l p q h = omega (arith, ints, h)

-- turns keep two positions at one place
pub alike_placed : (folds : ℕ → Fold) (ts : List Turn) (p q : Position) → AreAlike p q
    → AreAlike (placed folds ts p) (placed folds ts q)
alike_placed folds ts p q h =
    let s = sum_placed folds ts h.k h.l (pos 0) (pos 0) p q q q
    (record {
      x = as_sum h.k h.l p.x q.x h.x;
      y = as_sum h.k h.l p.y q.y h.y;
      z = as_sum h.k h.l p.z q.z h.z;
      w = as_sum h.k h.l p.w q.w h.w;
    }) in
    record {
      k = h.k;
      l = h.l;
      some_k = h.some_k;
      some_l = h.some_l;
      x = from_sum h.k h.l _ _ s.x;
      y = from_sum h.k h.l _ _ s.y;
      z = from_sum h.k h.l _ _ s.z;
      w = from_sum h.k h.l _ _ s.w;
    }

-- one place of the world
pub alike_from : (p q : Position) → pos 0 <ℤ p.w → pos 0 <ℤ q.w → IsSamePlace p q → AreAlike p q
alike_from p q wp wq h = record {
  k = q.w;
  l = p.w;
  some_k = wq;
  some_l = wp;
  x = omega (arith, ints, h.x);
  y = omega (arith, ints, h.y);
  z = omega (arith, ints, h.z);
  w = omega (arith, ints);
}

-- of two positions at one place none lies farther than the other
crossed : (k l a b v w : ℤ) → k *ℤ a ≡ l *ℤ b → k *ℤ v ≡ l *ℤ w → (b *ℤ v) *ℤ k ≡ (a *ℤ w) *ℤ k
crossed k l a b v w h j =
    let x = simp laid_out at (ap (λ z. z *ℤ w) h) in
    let y = simp laid_out at (ap (λ z. z *ℤ b) j) in
    simp laid_out (omega (arith, sums, x, y))

along_alike : (u v t : ℤ) (p q : Position) (h : AreAlike p q) → h.k *ℤ along u v t p ≡ h.l *ℤ along u v t q
along_alike u v t p q h =
    from_sum h.k h.l _ _ (sum_mixed u v t h.k h.l (pos 0) (pos 0) p.x p.y p.z q.x q.y q.z q.x q.y q.z q.x q.y
    q.z (as_sum h.k h.l p.x q.x h.x) (as_sum h.k h.l p.y q.y h.y) (as_sum h.k h.l p.z q.z h.z))

pub not_beyond : (u v t : ℤ) (p q : Position) → AreAlike p q → ¬ (IsBeyond (pos 0) u v t p q)
not_beyond u v t p q h far =
    let e = crossed h.k h.l (along u v t p) (along u v t q) p.w q.w (along_alike u v t p q h) h.w in
    let le = cancel (along u v t q *ℤ p.w) (along u v t p *ℤ q.w) h.k h.some_k (omega (arith, ints, e)) in
    absurd (omega (arith, ints, far, le))
