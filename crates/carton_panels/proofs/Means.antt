-- Means of flat points, with whole multipliers that aren't negative.
use Rattle.std.proofs.Common.{◌≡◌, ℤ, pos, negsuc, neg_ℤ, ◌+ℤ◌, ◌-ℤ◌, ◌*ℤ◌, ◌≤ℤ◌, ◌<ℤ◌, arith, ap, sym, ◌∙◌}
use Rattle.std.proofs.Common.{refl, List, Contains}
use Rattle.std.proofs.lemmas.Int.{ints}
use Rattle.carton_base.specs.declared.numbers.Triple.{Triple}
use Rattle.carton_panels.specs.Shrinking.{IsMean}
use Rattle.carton_base.proofs.Identities.{whole, less, ◌⊕◌, ◌⊖◌, ◌⊗◌, ◌⊜◌, by3, by4, by5, by7, by8, by9}

-- a mean by integers
pub mean_by : (x y w : ℤ) (a b c : Triple) (k l m n : ℤ) → pos 0 <ℤ k → pos 0 ≤ℤ l → pos 0 ≤ℤ m → pos 0 ≤ℤ n
    → k *ℤ x ≡ l *ℤ a.x +ℤ m *ℤ b.x +ℤ n *ℤ c.x → k *ℤ y ≡ l *ℤ a.y +ℤ m *ℤ b.y +ℤ n *ℤ c.y
    → k *ℤ w ≡ l *ℤ a.w +ℤ m *ℤ b.w +ℤ n *ℤ c.w → IsMean x y w a b c
mean_by x y w a b c (pos k) (pos l) (pos m) (pos n) p q r t ex ey ew =
    record {
      k = k;
      l = l;
      m = m;
      n = n;
      some = omega (arith, ints, p);
      x_part = ex;
      y_part = ey;
      w_part = ew;
    }
mean_by x y w a b c (negsuc k) l m n p q r t ex ey ew = absurd (omega (arith, ints, p))
mean_by x y w a b c (pos k) (negsuc l) m n p q r t ex ey ew = absurd (omega (arith, ints, q))
mean_by x y w a b c (pos k) (pos l) (negsuc m) n p q r t ex ey ew = absurd (omega (arith, ints, r))
mean_by x y w a b c (pos k) (pos l) (pos m) (negsuc n) p q r t ex ey ew = absurd (omega (arith, ints, t))

-- the flat point is a mean of two members of the list
pub record IsMeanOfTwo (ts : List Triple) (x y w : ℤ) : Type 0 where
  pub a : Triple
  pub b : Triple
  pub at_a : Contains ts a
  pub at_b : Contains ts b
  pub k : ℤ
  pub l : ℤ
  pub n : ℤ
  pub some : pos 0 <ℤ k
  pub part_a : pos 0 ≤ℤ l
  pub part_b : pos 0 ≤ℤ n
  pub x_part : k *ℤ x ≡ l *ℤ a.x +ℤ n *ℤ b.x
  pub y_part : k *ℤ y ≡ l *ℤ a.y +ℤ n *ℤ b.y
  pub w_part : k *ℤ w ≡ l *ℤ a.w +ℤ n *ℤ b.w

-- one coordinate of the point between two others, which lie n and s, and j and t, along d from it
pub part_between : (n s j t x d w p c q e : ℤ) → p *ℤ (n *ℤ w) ≡ (n *ℤ x +ℤ s *ℤ d) *ℤ c
    → q *ℤ (j *ℤ w) ≡ (j *ℤ x +ℤ t *ℤ neg_ℤ d) *ℤ e → ((t *ℤ n +ℤ s *ℤ j) *ℤ (c *ℤ e)) *ℤ x
    ≡ ((t *ℤ e) *ℤ (n *ℤ w)) *ℤ p +ℤ ((s *ℤ c) *ℤ (j *ℤ w)) *ℤ q
part_between n s j t x d w p c q e f g =
    by8 (λ n s j t x d c e. ((t ⊗ n ⊕ s ⊗ j) ⊗ (c ⊗ e)) ⊗ x ⊜ (t ⊗ e) ⊗ ((n ⊗ x ⊕ s ⊗ d) ⊗ c)
    ⊕ (s ⊗ c) ⊗ ((j ⊗ x ⊕ t ⊗ less d) ⊗ e)) refl n s j t x d c e
    ∙ ap (λ z. (t *ℤ e) *ℤ z +ℤ (s *ℤ c) *ℤ ((j *ℤ x +ℤ t *ℤ neg_ℤ d) *ℤ e)) (sym f)
    ∙ ap (λ z. (t *ℤ e) *ℤ (p *ℤ (n *ℤ w)) +ℤ (s *ℤ c) *ℤ z) (sym g)
    ∙ by9 (λ n s j t w p c q e. (t ⊗ e) ⊗ (p ⊗ (n ⊗ w)) ⊕ (s ⊗ c) ⊗ (q ⊗ (j ⊗ w)) ⊜ ((t ⊗ e) ⊗ (n ⊗ w)) ⊗ p
    ⊕ ((s ⊗ c) ⊗ (j ⊗ w)) ⊗ q) refl n s j t w p c q e

pub weight_between : (n s j t w c e : ℤ) → ((t *ℤ n +ℤ s *ℤ j) *ℤ (c *ℤ e)) *ℤ w ≡ ((t *ℤ e) *ℤ (n *ℤ w)) *ℤ c
    +ℤ ((s *ℤ c) *ℤ (j *ℤ w)) *ℤ e
weight_between n s j t w c e =
    by7 (λ n s j t w c e. ((t ⊗ n ⊕ s ⊗ j) ⊗ (c ⊗ e)) ⊗ w ⊜ ((t ⊗ e) ⊗ (n ⊗ w)) ⊗ c ⊕ ((s ⊗ c) ⊗ (j ⊗ w)) ⊗ e)
    refl n s j t w c e

-- one coordinate where the other point is the same
pub part_same : (n s x d w p c : ℤ) → s ≡ pos 0 → p *ℤ (n *ℤ w) ≡ (n *ℤ x +ℤ s *ℤ d) *ℤ c
    → (n *ℤ c) *ℤ x ≡ (n *ℤ w) *ℤ p +ℤ pos 0 *ℤ p
part_same n s x d w p c z f =
    by4 (λ n x d c. (n ⊗ c) ⊗ x ⊜ (n ⊗ x ⊕ whole 0 ⊗ d) ⊗ c) refl n x d c
    ∙ ap (λ r. (n *ℤ x +ℤ r *ℤ d) *ℤ c) (sym z)
    ∙ sym f
    ∙ by3 (λ n w p. p ⊗ (n ⊗ w) ⊜ (n ⊗ w) ⊗ p ⊕ whole 0 ⊗ p) refl n w p

pub weight_same : (n w c : ℤ) → (n *ℤ c) *ℤ w ≡ (n *ℤ w) *ℤ c +ℤ pos 0 *ℤ c
weight_same n w c = by3 (λ n w c. (n ⊗ c) ⊗ w ⊜ (n ⊗ w) ⊗ c ⊕ whole 0 ⊗ c) refl n w c

-- one coordinate of a point from which c leads back to it
pub part_beyond : (k n s x w p c l a i b : ℤ) → k *ℤ (n *ℤ x +ℤ s *ℤ (x *ℤ c -ℤ p *ℤ w)) ≡ l *ℤ a +ℤ i *ℤ b
    → (k *ℤ (n +ℤ s *ℤ c)) *ℤ x ≡ l *ℤ a +ℤ i *ℤ b +ℤ (k *ℤ (s *ℤ w)) *ℤ p
part_beyond k n s x w p c l a i b e =
    by7 (λ k n s x w p c. (k ⊗ (n ⊕ s ⊗ c)) ⊗ x ⊜ k ⊗ (n ⊗ x ⊕ s ⊗ (x ⊗ c ⊖ p ⊗ w)) ⊕ (k ⊗ (s ⊗ w)) ⊗ p) refl
    k n s x w p c ∙ ap (λ z. z +ℤ (k *ℤ (s *ℤ w)) *ℤ p) e

pub weight_beyond : (k n s w c l a i b : ℤ) → k *ℤ (n *ℤ w) ≡ l *ℤ a +ℤ i *ℤ b → (k *ℤ (n +ℤ s *ℤ c)) *ℤ w
    ≡ l *ℤ a +ℤ i *ℤ b +ℤ (k *ℤ (s *ℤ w)) *ℤ c
weight_beyond k n s w c l a i b e =
    by5 (λ k n s w c. (k ⊗ (n ⊕ s ⊗ c)) ⊗ w ⊜ k ⊗ (n ⊗ w) ⊕ (k ⊗ (s ⊗ w)) ⊗ c) refl k n s w c
    ∙ ap (λ z. z +ℤ (k *ℤ (s *ℤ w)) *ℤ c) e
