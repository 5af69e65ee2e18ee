-- Values of folds: a times the cosine and b times the sine, for a and b whose squares' sum is 1.
use Rattle.std.proofs.Common.{◌≡◌, ℕ, ◌*◌, ◌≤◌, ◌<◌, ◌⊎◌, inl, inr, refl, ◌∙◌, ap, ℤ, pos, neg_ℤ, ◌+ℤ◌, ◌-ℤ◌}
use Rattle.std.proofs.Common.{◌*ℤ◌, ◌≤ℤ◌, ◌<ℤ◌, unsigned_abs, arith}
use Rattle.std.proofs.lemmas.Int.{ints, by_lt_z, clamps}
use Rattle.std.specs.Int.{int_max, int_min}
use Rattle.carton_base.proofs.Polynomials.{laid_out, sums, nonneg_product, nonneg_square, positive_product}
use Rattle.carton_base.proofs.Polynomials.{mean_bound, cancel}
use Rattle.carton_base.proofs.Products.{mul_neg_right}
use Rattle.carton_model.specs.HalfTurns.{half_cosine, half_sine, cosine, sine, square_sum}
use Rattle.carton_halfturn.proofs.HalfPairs.{Halves, half_middle, half_over, half_under, cosine_is, sine_is}
use Rattle.carton_halfturn.proofs.HalfPairs.{square_sum_is}

-- the value and the sum of the squares of a half pair (c, s)
abbrev pub pair_value : ℤ → ℤ → ℤ → ℤ → ℤ
pair_value a b c s = a *ℤ (c *ℤ c -ℤ s *ℤ s) +ℤ b *ℤ (pos 2 *ℤ (c *ℤ s))

abbrev pub pair_squares : ℤ → ℤ → ℤ
pair_squares c s = c *ℤ c +ℤ s *ℤ s

abbrev pub squares : ℤ → ℕ → ℤ
squares n d = pos (square_sum n d)

pub record Form (f : ℤ → ℕ → ℤ) : Type 0 where
  pub a : ℤ
  pub b : ℤ
  pub one : a *ℤ a +ℤ b *ℤ b ≡ pos 1
  pub is : (n : ℤ) (d : ℕ) → f n d ≡ pair_value a b (half_cosine n d) (half_sine n d)

pub alone : (x y : ℤ) → x ≡ pos 1 *ℤ x +ℤ pos 0 *ℤ y
alone x y = omega (arith, ints)

abbrev pub cosine_form : Form cosine
cosine_form = record {
  a = pos 1;
  b = pos 0;
  one = refl;
  is = λ n d. cosine_is n d ∙ alone (half_cosine n d *ℤ half_cosine n d -ℤ half_sine n d *ℤ half_sine n d)
      (pos 2 *ℤ (half_cosine n d *ℤ half_sine n d));
}

pub last : (x y : ℤ) → y ≡ pos 0 *ℤ x +ℤ pos 1 *ℤ y
last x y = omega (arith, ints)

abbrev pub sine_form : Form sine
sine_form = record {
  a = pos 0;
  b = pos 1;
  one = refl;
  is = λ n d. sine_is n d ∙ last (half_cosine n d *ℤ half_cosine n d -ℤ half_sine n d *ℤ half_sine n d)
      (pos 2 *ℤ (half_cosine n d *ℤ half_sine n d));
}

-- the same with the other sign: what is said of upper bounds is so said of lower ones
abbrev pub turned : (ℤ → ℕ → ℤ) → ℤ → ℕ → ℤ
turned f n d = neg_ℤ (f n d)

pub turned_one : (a b : ℤ) → a *ℤ a +ℤ b *ℤ b ≡ pos 1 → neg_ℤ a *ℤ neg_ℤ a +ℤ neg_ℤ b *ℤ neg_ℤ b ≡ pos 1
turned_one a b e = simp laid_out (omega (arith, sums))

pub turned_form : (f : ℤ → ℕ → ℤ) → Form f → Form (turned f)
turned_form f F = record {
  a = neg_ℤ F.a;
  b = neg_ℤ F.b;
  one = turned_one F.a F.b F.one;
  is = λ n d. ap neg_ℤ (F.is n d) ∙ negated F.a F.b (half_cosine n d) (half_sine n d);
}
  where
    negated : (a b c s : ℤ) → neg_ℤ (pair_value a b c s) ≡ pair_value (neg_ℤ a) (neg_ℤ b) c s
    negated a b c s = simp laid_out (omega (arith, sums))

pub other_sign : (x y z w : ℤ) → (x *ℤ y) ≤ℤ (z *ℤ w) → (neg_ℤ z *ℤ w) ≤ℤ (neg_ℤ x *ℤ y)
other_sign x y z w h = omega (arith, ints, h, mul_neg_right x y, mul_neg_right z w)

-- the half pair (c, s) of the fold n / d, which lies from -2 to 2
pub record IsHalf (n d c s : ℤ) : Type 0 where
  pub least : neg_ℤ (d +ℤ d) ≤ℤ n
  pub greatest : n ≤ℤ (d +ℤ d)
  pub first : c ≡ int_min d (int_min (d +ℤ d -ℤ n) (d +ℤ d +ℤ n))
  pub second : s ≡ int_max (neg_ℤ d) (int_min n d)

pub half_of : (n : ℤ) (d : ℕ) → unsigned_abs n ≤ 2 * d → IsHalf n (pos d) (half_cosine n d) (half_sine n d)
half_of n d w = by_lt_z (pos d) n
    (λ s. of _ _ (half_over n d (omega (arith, ints))) (omega (arith, ints, clamps)) (omega (arith, ints, clamps)))
    (λ s. by_lt_z n (neg_ℤ (pos d))
    (λ t. of _ _ (half_under n d (omega (arith, ints))) (omega (arith, ints, clamps)) (omega (arith, ints, clamps)))
    (λ t. of _ _ (half_middle n d (omega (arith, ints))) (omega (arith, ints, clamps)) (omega (arith, ints, clamps))))
  where
    of : (c s : ℤ) → Halves n d c s → c ≡ int_min (pos d) (int_min (pos d +ℤ pos d -ℤ n) (pos d +ℤ pos d +ℤ n))
        → s ≡ int_max (neg_ℤ (pos d)) (int_min n (pos d)) → IsHalf n (pos d) (half_cosine n d) (half_sine n d)
    of c s h e q = record {
      least = omega (arith, ints);
      greatest = omega (arith, ints);
      first = h.first ∙ e;
      second = h.second ∙ q;
    }

-- one part of a half pair is d or -d
long : (n d c s : ℤ) → pos 0 ≤ℤ d → IsHalf n d c s → (d *ℤ d) ≤ℤ pair_squares c s
long n d c s d0 h = by_lt_z d n
    (λ o. let e : s ≡ d = omega (arith, ints, clamps) in let q = nonneg_square c in rw e (omega (arith, sums)))
    (λ o. by_lt_z n (neg_ℤ d)
    (λ p. let e : s ≡ neg_ℤ d = omega (arith, ints, clamps) in let q = nonneg_square c in
    rw e (simp laid_out (omega (arith, sums))))
    (λ p. let e : c ≡ d = omega (arith, ints, clamps) in let q = nonneg_square s in
    rw e (omega (arith, sums))))

pub squares_positive : (n : ℤ) (d : ℕ) → 0 < d → unsigned_abs n ≤ 2 * d → pos 0 <ℤ pos (square_sum n d)
squares_positive n d d0 w =
    let dd = positive_product (pos d) (pos d) (omega (arith, ints)) (omega (arith, ints)) in
    let l = long n (pos d) (half_cosine n d) (half_sine n d) (omega (arith, ints)) (half_of n d w) in
    rw square_sum_is (omega (arith, sums))

-- the half pair turns one way as the fold grows, and by at most d times the change
pub record Turns (m m' d c s c' s' : ℤ) : Type 0 where
  pub forward : pos 0 ≤ℤ (c *ℤ s' -ℤ s *ℤ c')
  pub most : (c *ℤ s' -ℤ s *ℤ c') ≤ℤ (d *ℤ (m' -ℤ m))

-- m, c and s are the numbers of one of three zones: past -d, from -d to d, and past d
abbrev Zone : ℤ → ℤ → ℤ → ℤ → Type 0
Zone n d c s = (n ≤ℤ neg_ℤ d) × (c ≡ d +ℤ d +ℤ n) × (s ≡ neg_ℤ d)
    ⊎ (neg_ℤ d ≤ℤ n) × (n ≤ℤ d) × (c ≡ d) × (s ≡ n) ⊎ (d ≤ℤ n) × (c ≡ d +ℤ d -ℤ n) × (s ≡ d)

zone : (n d c s : ℤ) → pos 0 ≤ℤ d → IsHalf n d c s → Zone n d c s
zone n d c s d0 h = by_lt_z d n
    (λ o. inr (inr (omega (arith, ints), omega (arith, ints, clamps), omega (arith, ints, clamps))))
    (λ o. by_lt_z n (neg_ℤ d)
    (λ p. inl (omega (arith, ints), omega (arith, ints, clamps), omega (arith, ints, clamps)))
    (λ p. inr (inl (p, o, omega (arith, ints, clamps), omega (arith, ints, clamps)))))

less : (m m' d c s c' s' : ℤ) → pos 0 ≤ℤ d → m ≤ℤ m' → Zone m d c s → Zone m' d c' s'
    → ((s' -ℤ s +ℤ (c' -ℤ c)) ≤ℤ (m' -ℤ m)) × ((s' -ℤ s +ℤ (c -ℤ c')) ≤ℤ (m' -ℤ m))
less m m' d c s c' s' d0 le z w = (omega (arith, ints), omega (arith, ints))

pub turns : (m m' d c s c' s' : ℤ) → pos 0 ≤ℤ d → m ≤ℤ m' → IsHalf m d c s → IsHalf m' d c' s'
    → Turns m m' d c s c' s'
turns m m' d c s c' s' d0 le h k =
    let c0 : pos 0 ≤ℤ c = omega (arith, ints, clamps) in
    let cd : c ≤ℤ d = omega (arith, ints, clamps) in
    let up : s ≤ℤ s' = omega (arith, ints, clamps) in
    let z = less m m' d c s c' s' d0 le (zone m d c s d0 h) (zone m' d c' s' d0 k) in
    let w = simp laid_out at (nonneg_product c (s' -ℤ s) c0 (omega (arith, sums))) in
    let v = simp laid_out at (nonneg_product (d -ℤ c) (s' -ℤ s) (omega (arith, sums)) (omega (arith, sums))) in
    record {
      forward = by_lt_z s (pos 0)
          (λ o. by_lt_z s' (pos 0)
          (λ q. let a = simp laid_out at (nonneg_product (neg_ℤ s) (c' -ℤ c) (omega (arith, ints))
          (omega (arith, ints, clamps))) in omega (arith, ints))
          (λ q. let a = nonneg_product c s' c0 q in
          let b = simp laid_out at (nonneg_product (neg_ℤ s) c' (omega (arith, ints)) (omega (arith, ints, clamps))) in
          omega (arith, ints)))
          (λ o. let a = simp laid_out at (nonneg_product s (c -ℤ c') o (omega (arith, ints, clamps))) in
          omega (arith, ints));
      most = by_lt_z c c'
          (λ o. let a = simp laid_out at (nonneg_product (d +ℤ s) (c' -ℤ c) (omega (arith, ints, clamps))
          (omega (arith, ints))) in
          let b = simp laid_out at (nonneg_product d (m' -ℤ m -ℤ (s' -ℤ s +ℤ (c' -ℤ c))) d0
          (omega (arith, sums))) in
          simp laid_out (omega (arith, sums)))
          (λ o. let a = simp laid_out at (nonneg_product (d -ℤ s) (c -ℤ c') (omega (arith, ints, clamps))
          (omega (arith, ints))) in
          let b = simp laid_out at (nonneg_product d (m' -ℤ m -ℤ (s' -ℤ s +ℤ (c -ℤ c'))) d0
          (omega (arith, sums))) in
          simp laid_out (omega (arith, sums)));
    }

-- ---- values differ by at most twice the folds' change
abbrev pub mean : ℤ → ℤ → ℤ → ℤ → ℤ → ℤ → ℤ
mean a b c s c' s' = a *ℤ (c *ℤ s' +ℤ s *ℤ c') -ℤ b *ℤ (c *ℤ c' -ℤ s *ℤ s')

pub gap_is : (a b c s c' s' : ℤ)
    → pair_value a b c s *ℤ pair_squares c' s' -ℤ pair_value a b c' s' *ℤ pair_squares c s
    ≡ pos 2 *ℤ ((c *ℤ s' -ℤ s *ℤ c') *ℤ mean a b c s c' s')
gap_is a b c s c' s' = simp laid_out (omega (arith, sums))

pub times_one : (q h : ℤ) → q ≡ pos 1 → q *ℤ h ≡ h
times_one q h e = rw e (omega (arith, ints))

mean_within : (a b c s c' s' : ℤ) → a *ℤ a +ℤ b *ℤ b ≡ pos 1
    → (mean a b c s c' s' +ℤ mean a b c s c' s') ≤ℤ (pair_squares c s +ℤ pair_squares c' s')
mean_within a b c s c' s' one =
    let p = simp laid_out at (nonneg_square (c -ℤ (a *ℤ s' -ℤ b *ℤ c'))) in
    let q = simp laid_out at (nonneg_square (s -ℤ (a *ℤ c' +ℤ b *ℤ s'))) in
    let u = simp laid_out at (times_one (a *ℤ a +ℤ b *ℤ b) (c' *ℤ c' +ℤ s' *ℤ s') one) in
    simp laid_out (omega (arith, sums))

near : (d g x z h : ℤ) → pos 0 <ℤ d → pos 0 ≤ℤ x → pos 0 ≤ℤ h → x ≤ℤ (d *ℤ g) → ((d *ℤ d) *ℤ z) ≤ℤ h
    → ((pos 2 *ℤ (x *ℤ z)) *ℤ d) ≤ℤ (pos 2 *ℤ (g *ℤ h))
near d g x z h d0 x0 h0 xd zh =
    let a = simp laid_out at (nonneg_product x (h -ℤ (d *ℤ d) *ℤ z) x0 (omega (arith, sums))) in
    let b = simp laid_out at (nonneg_product (d *ℤ g -ℤ x) h (omega (arith, sums)) h0) in
    cancel ((pos 2 *ℤ (x *ℤ z)) *ℤ d) (pos 2 *ℤ (g *ℤ h)) d d0 (simp laid_out (omega (arith, sums)))

steep : (m m' d c s c' s' a b : ℤ) → pos 0 <ℤ d → m ≤ℤ m' → IsHalf m d c s → IsHalf m' d c' s'
    → a *ℤ a +ℤ b *ℤ b ≡ pos 1
    → ((pair_value a b c s *ℤ pair_squares c' s' -ℤ pair_value a b c' s' *ℤ pair_squares c s) *ℤ d)
    ≤ℤ (pos 2 *ℤ ((m' -ℤ m) *ℤ (pair_squares c s *ℤ pair_squares c' s')))
steep m m' d c s c' s' a b d0 le h k one =
    let dn : pos 0 ≤ℤ d = omega (arith, sums) in
    let t = turns m m' d c s c' s' dn le h k in
    let dd = nonneg_square d in
    let v = long m d c s dn h in
    let w = long m' d c' s' dn k in
    let z = mean_bound (d *ℤ d) (pair_squares c s) (pair_squares c' s') (mean a b c s c' s') dd v w
    (mean_within a b c s c' s' one) in
    let vw = nonneg_product (pair_squares c s) (pair_squares c' s') (omega (arith, sums))
    (omega (arith, sums)) in
    rw gap_is (near d (m' -ℤ m) (c *ℤ s' -ℤ s *ℤ c') (mean a b c s c' s')
    (pair_squares c s *ℤ pair_squares c' s') d0 t.forward vw t.most z)

written : (x v y w x' v' y' w' d g : ℤ) → x ≡ x' → v ≡ v' → y ≡ y' → w ≡ w'
    → ((x' *ℤ w' -ℤ y' *ℤ v') *ℤ d) ≤ℤ (pos 2 *ℤ (g *ℤ (v' *ℤ w')))
    → ((x *ℤ w -ℤ y *ℤ v) *ℤ d) ≤ℤ (pos 2 *ℤ (g *ℤ (v *ℤ w)))
written x v y w x' v' y' w' d g a b e h le = rw (a, b, e, h) le

upward : (f : ℤ → ℕ → ℤ) → Form f → (m n : ℤ) (d : ℕ) → 0 < d → unsigned_abs m ≤ 2 * d
    → unsigned_abs n ≤ 2 * d
    → m ≤ℤ n → ((f m d *ℤ squares n d -ℤ f n d *ℤ squares m d) *ℤ pos d)
    ≤ℤ (pos 2 *ℤ ((n -ℤ m) *ℤ (squares m d *ℤ squares n d)))
upward f F m n d d0 mw nw le = written (f m d) (squares m d) (f n d) (squares n d) _ _ _ _ (pos d) (n -ℤ m)
    (F.is m d) (square_sum_is m d) (F.is n d) (square_sum_is n d)
    (steep m n (pos d) (half_cosine m d) (half_sine m d) (half_cosine n d) (half_sine n d) F.a F.b
    (omega (arith, ints)) le (half_of m d mw) (half_of n d nw) F.one)

widened : (x v y w d g h : ℤ) → g ≤ℤ h → pos 0 ≤ℤ v → pos 0 ≤ℤ w
    → ((x *ℤ w -ℤ y *ℤ v) *ℤ d) ≤ℤ (pos 2 *ℤ (g *ℤ (v *ℤ w)))
    → ((x *ℤ w -ℤ y *ℤ v) *ℤ d) ≤ℤ (pos 2 *ℤ (h *ℤ (v *ℤ w)))
widened x v y w d g h gh v0 w0 le =
    let vw = nonneg_product v w v0 w0 in
    let b = simp laid_out at (nonneg_product (h -ℤ g) (v *ℤ w) (omega (arith, sums)) vw) in
    let k = simp laid_out at le in simp laid_out (omega (arith, sums))

other_way : (x v y w d g : ℤ) → ((neg_ℤ y *ℤ v -ℤ neg_ℤ x *ℤ w) *ℤ d) ≤ℤ (pos 2 *ℤ (g *ℤ (w *ℤ v)))
    → ((x *ℤ w -ℤ y *ℤ v) *ℤ d) ≤ℤ (pos 2 *ℤ (g *ℤ (v *ℤ w)))
other_way x v y w d g le = let k = simp laid_out at le in simp laid_out (omega (arith, sums))

pub steep_at : (f : ℤ → ℕ → ℤ) → Form f → (m n g : ℤ) (d : ℕ) → 0 < d → unsigned_abs m ≤ 2 * d
    → unsigned_abs n ≤ 2 * d → (m -ℤ n) ≤ℤ g → (n -ℤ m) ≤ℤ g
    → ((f m d *ℤ squares n d -ℤ f n d *ℤ squares m d) *ℤ pos d)
    ≤ℤ (pos 2 *ℤ (g *ℤ (squares m d *ℤ squares n d)))
steep_at f F m n g d d0 mw nw mn nm = by_lt_z n m
    (λ s. widened (f m d) (squares m d) (f n d) (squares n d) (pos d) (m -ℤ n) g mn (omega (arith, ints))
    (omega (arith, ints)) (other_way (f m d) (squares m d) (f n d) (squares n d) (pos d) (m -ℤ n)
    (upward (turned f) (turned_form f F) n m d d0 nw mw (omega (arith, ints)))))
    (λ s. widened (f m d) (squares m d) (f n d) (squares n d) (pos d) (n -ℤ m) g nm (omega (arith, ints))
    (omega (arith, ints)) (upward f F m n d d0 mw nw s))
