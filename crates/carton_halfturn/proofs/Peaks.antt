-- Which folds of a range have the greatest and the least cosine and sine.
use Rattle.std.proofs.Common.{◌≡◌, ℕ, ◌*◌, ◌≤◌, ◌<◌, ◌⊎◌, inl, inr, ℤ, pos, ◌+ℤ◌, ◌-ℤ◌, ◌*ℤ◌, neg_ℤ, ◌≤ℤ◌}
use Rattle.std.proofs.Common.{◌<ℤ◌, unsigned_abs, arith, ap, subst, sym}
use Rattle.std.proofs.lemmas.Int.{ints, by_lt_z, clamps}
use Rattle.carton_base.proofs.Products.{mul_neg_right}
use Rattle.carton_base.proofs.Polynomials.{laid_out, sums, nonneg_product, mul_neg_left}
use Rattle.carton_model.specs.HalfTurns.{half_cosine, half_sine, cosine, sine}
use Rattle.carton_halfturn.specs.declared.ranges.Range.{Range}
use Rattle.carton_halfturn.specs.Ranges.{IsNearest, IsFarthest, IsCrest}
use Rattle.carton_halfturn.proofs.HalfPairs.{square_sum_is}
use Rattle.carton_halfturn.proofs.Forms.{Form, turned, squares, cosine_form, sine_form, IsHalf, half_of}
use Rattle.carton_halfturn.proofs.Forms.{turns, gap_is}
use Rattle.carton_halfturn.proofs.Forms.{mean, other_sign, pair_value, pair_squares}

-- orders over one d hold over dk
pub scaled_le : (a b k : ℤ) → pos 0 <ℤ k → a ≤ℤ b → (a *ℤ k) ≤ℤ (b *ℤ k)
scaled_le a b k k0 h =
    let m = simp laid_out at (nonneg_product (b -ℤ a) k (omega (arith, sums)) (omega (arith, sums))) in
    omega (arith, ints)

pub scaled_lt : (a b k : ℤ) → pos 0 <ℤ k → a <ℤ b → (a *ℤ k) <ℤ (b *ℤ k)
scaled_lt a b k k0 h =
    let m = simp laid_out at (nonneg_product (b -ℤ a -ℤ pos 1) k (omega (arith, sums))
    (omega (arith, sums))) in omega (arith, ints)

-- ---- half pairs of other folds: turned the other way, and mirrored at a right angle
opposite : (n d c s : ℤ) → IsHalf n d c s → IsHalf (neg_ℤ n) d c (neg_ℤ s)
opposite n d c s h = record {
  least = omega (arith, ints);
  greatest = omega (arith, ints);
  first = omega (arith, ints, clamps);
  second = omega (arith, ints, clamps);
}

mirrored : (n d c s : ℤ) → pos 0 ≤ℤ d → pos 0 ≤ℤ n → IsHalf n d c s → IsHalf (d +ℤ d -ℤ n) d s c
mirrored n d c s d0 n0 h = record {
  least = omega (arith, ints);
  greatest = omega (arith, ints);
  first = omega (arith, ints, clamps);
  second = omega (arith, ints, clamps);
}

-- ---- the order of two cosines, or of two sines
record Pair (m n d c s c' s' : ℤ) : Type 0 where
  den : pos 0 ≤ℤ d
  one : IsHalf m d c s
  two : IsHalf n d c' s'

sum_after : (m n d c s c' s' : ℤ) → Pair m n d c s c' s' → neg_ℤ m ≤ℤ n → pos 0 ≤ℤ (c *ℤ s' +ℤ s *ℤ c')
sum_after m n d c s c' s' p le =
    let t = turns (neg_ℤ m) n d c (neg_ℤ s) c' s' p.den le (opposite m d c s p.one) p.two in
    let k = t.forward in omega (arith, ints, k, mul_neg_right s c')

sum_before : (m n d c s c' s' : ℤ) → Pair m n d c s c' s' → n ≤ℤ neg_ℤ m → (c *ℤ s' +ℤ s *ℤ c') ≤ℤ pos 0
sum_before m n d c s c' s' p le =
    let t = turns n (neg_ℤ m) d c' s' c (neg_ℤ s) p.den le p.two (opposite m d c s p.one) in
    let k = t.forward in omega (arith, ints, k, mul_neg_left c' s)

product_after : (m n d c s c' s' : ℤ) → Pair m n d c s c' s' → pos 0 ≤ℤ m → (m +ℤ n) ≤ℤ (d +ℤ d)
    → pos 0 ≤ℤ (c *ℤ c' -ℤ s *ℤ s')
product_after m n d c s c' s' p m0 le =
    let t = turns n (d +ℤ d -ℤ m) d c' s' s c p.den (omega (arith, ints)) p.two
    (mirrored m d c s p.den m0 p.one) in
    omega (arith, ints)

product_before : (m n d c s c' s' : ℤ) → Pair m n d c s c' s' → pos 0 ≤ℤ m → (d +ℤ d) ≤ℤ (m +ℤ n)
    → (c *ℤ c' -ℤ s *ℤ s') ≤ℤ pos 0
product_before m n d c s c' s' p m0 le =
    let t = turns (d +ℤ d -ℤ m) n d s c c' s' p.den (omega (arith, ints)) (mirrored m d c s p.den m0 p.one)
    p.two in
    omega (arith, ints)

rest : (x z y : ℤ) → x -ℤ z ≡ pos 2 *ℤ y → pos 0 ≤ℤ y → z ≤ℤ x
rest x z y e h = omega (arith, ints)

by_gap : (a b c s c' s' t : ℤ) → mean a b c s c' s' ≡ t → pos 0 ≤ℤ ((c *ℤ s' -ℤ s *ℤ c') *ℤ t)
    → (pair_value a b c' s' *ℤ pair_squares c s) ≤ℤ (pair_value a b c s *ℤ pair_squares c' s')
by_gap a b c s c' s' t e h =
    rest (pair_value a b c s *ℤ pair_squares c' s') (pair_value a b c' s' *ℤ pair_squares c s)
    ((c *ℤ s' -ℤ s *ℤ c') *ℤ mean a b c s c' s') (gap_is a b c s c' s')
    (subst (λ z. pos 0 ≤ℤ ((c *ℤ s' -ℤ s *ℤ c') *ℤ z)) (sym e) h)

ordered : (f : ℤ → ℕ → ℤ) (F : Form f) (m n t : ℤ) (d : ℕ)
    → mean F.a F.b (half_cosine m d) (half_sine m d) (half_cosine n d) (half_sine n d) ≡ t
    → pos 0 ≤ℤ ((half_cosine m d *ℤ half_sine n d -ℤ half_sine m d *ℤ half_cosine n d) *ℤ t)
    → (f n d *ℤ squares m d) ≤ℤ (f m d *ℤ squares n d)
ordered f F m n t d e h = rw (F.is m d, F.is n d, square_sum_is m d, square_sum_is n d)
    (by_gap F.a F.b (half_cosine m d) (half_sine m d) (half_cosine n d) (half_sine n d) t e h)

both_down : (y t : ℤ) → pos 0 ≤ℤ neg_ℤ y → pos 0 ≤ℤ neg_ℤ t → pos 0 ≤ℤ (y *ℤ t)
both_down y t a b = let k = simp laid_out at (nonneg_product (neg_ℤ y) (neg_ℤ t) a b) in
    omega (arith, ints)

pair_at : (m n : ℤ) (d : ℕ) → unsigned_abs m ≤ 2 * d → unsigned_abs n ≤ 2 * d
    → Pair m n (pos d) (half_cosine m d) (half_sine m d) (half_cosine n d) (half_sine n d)
pair_at m n d a b = record { den = omega (arith, ints); one = half_of m d a; two = half_of n d b }

turned_down : (c s c' s' : ℤ) → pos 0 ≤ℤ (c' *ℤ s -ℤ s' *ℤ c) → pos 0 ≤ℤ neg_ℤ (c *ℤ s' -ℤ s *ℤ c')
turned_down c s c' s' h = omega (arith, ints)

-- m is not farther from flat than n
abbrev pub Nearer : ℤ → ℤ → Type 0
Nearer m n = ((m ≤ℤ n) × (neg_ℤ m ≤ℤ n)) ⊎ ((n ≤ℤ m) × (n ≤ℤ neg_ℤ m))

pub cosines_ordered : (m n : ℤ) (d : ℕ) → unsigned_abs m ≤ 2 * d → unsigned_abs n ≤ 2 * d → Nearer m n
    → (cosine n d *ℤ squares m d) ≤ℤ (cosine m d *ℤ squares n d)
cosines_ordered m n d a b o =
    let p = pair_at m n d a b in
    ordered cosine cosine_form m n (half_cosine m d *ℤ half_sine n d +ℤ half_sine m d *ℤ half_cosine n d) d
    (alone (half_cosine m d *ℤ half_sine n d +ℤ half_sine m d *ℤ half_cosine n d)
    (half_cosine m d *ℤ half_cosine n d -ℤ half_sine m d *ℤ half_sine n d)) (side p o)
  where
    alone : (x y : ℤ) → pos 1 *ℤ x -ℤ pos 0 *ℤ y ≡ x
    alone x y = omega (arith, ints)

    side : {c s c' s' : ℤ} → Pair m n (pos d) c s c' s' → Nearer m n
        → pos 0 ≤ℤ ((c *ℤ s' -ℤ s *ℤ c') *ℤ (c *ℤ s' +ℤ s *ℤ c'))
    side {c} {s} {c'} {s'} p (inl o) = nonneg_product (c *ℤ s' -ℤ s *ℤ c') (c *ℤ s' +ℤ s *ℤ c')
        (turns m n (pos d) c s c' s' p.den o.0 p.one p.two).forward (sum_after m n (pos d) c s c' s' p o.1)
    side {c} {s} {c'} {s'} p (inr o) =
        let low = sum_before m n (pos d) c s c' s' p o.1 in
        both_down (c *ℤ s' -ℤ s *ℤ c') (c *ℤ s' +ℤ s *ℤ c')
        (turned_down c s c' s' (turns n m (pos d) c' s' c s p.den o.0 p.two p.one).forward)
        (omega (arith, sums))

-- m is not farther from a right angle than n, round the circle
abbrev pub Higher : ℤ → ℤ → ℤ → Type 0
Higher m n d = ((n ≤ℤ m) × (neg_ℤ (d +ℤ d) ≤ℤ (m +ℤ n)) × ((m +ℤ n) ≤ℤ (d +ℤ d)))
    ⊎ ((m ≤ℤ n) × ((d +ℤ d) ≤ℤ (m +ℤ n))) ⊎ ((m ≤ℤ n) × ((m +ℤ n) ≤ℤ neg_ℤ (d +ℤ d)))

swap : (m n d c s c' s' : ℤ) → Pair m n d c s c' s' → Pair n m d c' s' c s
swap m n d c s c' s' p = record { den = p.den; one = p.two; two = p.one }

turn : (m n d c s c' s' : ℤ) → Pair m n d c s c' s' → Pair (neg_ℤ m) (neg_ℤ n) d c (neg_ℤ s) c' (neg_ℤ s')
turn m n d c s c' s' p = record { den = p.den; one = opposite m d c s p.one; two = opposite n d c' s' p.two }

within : (m n d c s c' s' : ℤ) → Pair m n d c s c' s' → neg_ℤ (d +ℤ d) ≤ℤ (m +ℤ n) → (m +ℤ n) ≤ℤ (d +ℤ d)
    → pos 0 ≤ℤ (c *ℤ c' -ℤ s *ℤ s')
within m n d c s c' s' p low high = by_lt_z m (pos 0)
    (λ o. let k = product_after (neg_ℤ m) (neg_ℤ n) d c (neg_ℤ s) c' (neg_ℤ s') (turn m n d c s c' s' p)
    (omega (arith, ints)) (omega (arith, ints)) in
    let l = simp laid_out at k in omega (arith, ints))
    (λ o. product_after m n d c s c' s' p o high)

beyond : (m n d c s c' s' : ℤ) → Pair m n d c s c' s' → m ≤ℤ n
    → ((d +ℤ d) ≤ℤ (m +ℤ n)) ⊎ ((m +ℤ n) ≤ℤ neg_ℤ (d +ℤ d)) → (c *ℤ c' -ℤ s *ℤ s') ≤ℤ pos 0
beyond m n d c s c' s' p le (inl o) =
    let k = product_before n m d c' s' c s (swap m n d c s c' s' p) (omega (arith, ints))
    (omega (arith, ints)) in
    omega (arith, ints)
beyond m n d c s c' s' p le (inr o) =
    let k = product_before (neg_ℤ m) (neg_ℤ n) d c (neg_ℤ s) c' (neg_ℤ s') (turn m n d c s c' s' p)
    (omega (arith, ints)) (omega (arith, ints)) in
    let l = simp laid_out at k in omega (arith, ints)

pub sines_ordered : (m n : ℤ) (d : ℕ) → unsigned_abs m ≤ 2 * d → unsigned_abs n ≤ 2 * d → Higher m n (pos d)
    → (sine n d *ℤ squares m d) ≤ℤ (sine m d *ℤ squares n d)
sines_ordered m n d a b o =
    let p = pair_at m n d a b in
    ordered sine sine_form m n
    (neg_ℤ (half_cosine m d *ℤ half_cosine n d -ℤ half_sine m d *ℤ half_sine n d)) d
    (alone (half_cosine m d *ℤ half_sine n d +ℤ half_sine m d *ℤ half_cosine n d)
    (half_cosine m d *ℤ half_cosine n d -ℤ half_sine m d *ℤ half_sine n d)) (side p o)
  where
    alone : (x y : ℤ) → pos 0 *ℤ x -ℤ pos 1 *ℤ y ≡ neg_ℤ y
    alone x y = omega (arith, ints)

    forth : {c s c' s' : ℤ} → Pair m n (pos d) c s c' s' → m ≤ℤ n → (c *ℤ c' -ℤ s *ℤ s') ≤ℤ pos 0
        → pos 0 ≤ℤ ((c *ℤ s' -ℤ s *ℤ c') *ℤ neg_ℤ (c *ℤ c' -ℤ s *ℤ s'))
    forth {c} {s} {c'} {s'} p le h = nonneg_product (c *ℤ s' -ℤ s *ℤ c') (neg_ℤ (c *ℤ c' -ℤ s *ℤ s'))
        (turns m n (pos d) c s c' s' p.den le p.one p.two).forward (omega (arith, sums))

    side : {c s c' s' : ℤ} → Pair m n (pos d) c s c' s' → Higher m n (pos d)
        → pos 0 ≤ℤ ((c *ℤ s' -ℤ s *ℤ c') *ℤ neg_ℤ (c *ℤ c' -ℤ s *ℤ s'))
    side {c} {s} {c'} {s'} p (inl o) =
        let up = within m n (pos d) c s c' s' p o.1 o.2 in
        both_down (c *ℤ s' -ℤ s *ℤ c') (neg_ℤ (c *ℤ c' -ℤ s *ℤ s'))
        (turned_down c s c' s' (turns n m (pos d) c' s' c s p.den o.0 p.two p.one).forward)
        (omega (arith, sums))
    side {c} {s} {c'} {s'} p (inr (inl o)) = forth p o.0 (beyond m n (pos d) c s c' s' p o.0 (inl o.1))
    side {c} {s} {c'} {s'} p (inr (inr o)) = forth p o.0 (beyond m n (pos d) c s c' s' p o.0 (inr o.1))

-- ---- over a range, in parts k of 1 / d
-- p / d lies from low to high, and no fold there has a greater value f
pub record IsPeak (f : ℤ → ℕ → ℤ) (low high : ℤ) (d : ℕ) (p : ℤ) : Type 0 where
  pub from : low ≤ℤ p
  pub upto : p ≤ℤ high
  pub greatest : (n : ℤ) (k : ℕ) → 0 < k → (low *ℤ pos k) ≤ℤ n → n ≤ℤ (high *ℤ pos k)
      → (f n (d * k) *ℤ squares (p *ℤ pos k) (d * k)) ≤ℤ (f (p *ℤ pos k) (d * k) *ℤ squares n (d * k))

pub parts_within : (low high n : ℤ) (e k : ℕ) → 0 < k → neg_ℤ (pos (2 * e)) ≤ℤ low → high ≤ℤ pos (2 * e)
    → (low *ℤ pos k) ≤ℤ n → n ≤ℤ (high *ℤ pos k) → unsigned_abs n ≤ 2 * (e * k)
parts_within low high n e k k0 least greatest from upto =
    let a = scaled_le (neg_ℤ (pos (2 * e))) low (pos k) (omega (arith, ints)) least in
    let b = scaled_le high (pos (2 * e)) (pos k) (omega (arith, ints)) greatest in
    let c : neg_ℤ (pos (2 * e)) *ℤ pos k ≡ neg_ℤ (pos (2 * e * k)) = mul_neg_right (pos (2 * e)) (pos k) in
    omega (arith, ints)

peak : (f : ℤ → ℕ → ℤ) (r : Range) (p : ℤ) → r.low ≤ℤ p → p ≤ℤ r.high
    → ((n : ℤ) (k : ℕ) → 0 < k → (r.low *ℤ pos k) ≤ℤ n → n ≤ℤ (r.high *ℤ pos k)
    → unsigned_abs (p *ℤ pos k) ≤ 2 * (unsigned_abs r.den * k) → unsigned_abs n ≤ 2 * (unsigned_abs r.den * k)
    → (f n (unsigned_abs r.den * k) *ℤ squares (p *ℤ pos k) (unsigned_abs r.den * k))
    ≤ℤ (f (p *ℤ pos k) (unsigned_abs r.den * k) *ℤ squares n (unsigned_abs r.den * k)))
    → IsPeak f r.low r.high (unsigned_abs r.den) p
peak f r p from upto order = record {
  from = from;
  upto = upto;
  greatest = λ n k k0 a b. let kk : pos 0 <ℤ pos k = omega (arith, ints) in
      let e : ℕ = unsigned_abs r.den in
      order n k k0 a b
      (parts_within r.low r.high (p *ℤ pos k) e k k0 r.least r.greatest (scaled_le r.low p (pos k) kk from)
      (scaled_le p r.high (pos k) kk upto)) (parts_within r.low r.high n e k k0 r.least r.greatest a b);
}

near_order : (low high p n k : ℤ) → pos 0 <ℤ k → (low *ℤ k) ≤ℤ n → n ≤ℤ (high *ℤ k) → IsNearest low high p
    → Nearer (p *ℤ k) n
near_order low high p n k k0 a b (inl h) = let z = scaled_le (pos 0) low k k0 h.after in
    rw h.is (inl (omega (arith, ints), omega (arith, ints)))
near_order low high p n k k0 a b (inr (inl h)) = let z = scaled_le high (pos 0) k k0 h.before in
    rw h.is (inr (omega (arith, ints), omega (arith, ints)))
near_order low high p n k k0 a b (inr (inr h)) = rw h.is (by_lt_z n (pos 0)
    (λ s. inr (omega (arith, ints), omega (arith, ints))) (λ s. inl (omega (arith, ints), omega (arith, ints))))

far_order : (low high p n k : ℤ) → pos 0 <ℤ k → (low *ℤ k) ≤ℤ n → n ≤ℤ (high *ℤ k) → IsFarthest low high p
    → Nearer n (p *ℤ k)
far_order low high p n k k0 a b (inl h) = let z = simp laid_out at (scaled_le (neg_ℤ low) high k k0 h.more) in
    rw h.is (inl (omega (arith, ints), omega (arith, ints)))
far_order low high p n k k0 a b (inr h) = let z = simp laid_out at (scaled_le high (neg_ℤ low) k k0 h.more) in
    rw h.is (inr (omega (arith, ints), omega (arith, ints)))

crest_order : (low high d p n k : ℤ) → pos 0 <ℤ k → neg_ℤ (d +ℤ d) ≤ℤ low → (low *ℤ k) ≤ℤ n → n ≤ℤ (high *ℤ k)
    → IsCrest low high d p → Higher (p *ℤ k) n (d *ℤ k)
crest_order low high d p n k k0 l a b (inl h) = let z = scaled_le d low k k0 h.past in
    rw h.is (inr (inl (omega (arith, ints), omega (arith, ints))))
crest_order low high d p n k k0 l a b (inr (inl h)) =
    let z = simp laid_out at (scaled_le (neg_ℤ (d +ℤ d)) low k k0 l) in
    let y = scaled_le low d k k0 h.before in
    let e : p *ℤ k ≡ d *ℤ k = ap (λ t. t *ℤ k) h.is in by_lt_z (d *ℤ k) n
    (λ s. inr (inl (omega (arith, ints), omega (arith, ints))))
    (λ s. inl (omega (arith, ints), above (low *ℤ k) (d *ℤ k) (p *ℤ k) n z y e a s, omega (arith, ints)))
  where
    above : (low d p n : ℤ) → neg_ℤ (d +ℤ d) ≤ℤ low → low ≤ℤ d → p ≡ d → low ≤ℤ n → n ≤ℤ d
        → neg_ℤ (d +ℤ d) ≤ℤ (p +ℤ n)
    above low d p n z y e a s = omega (arith, ints)
crest_order low high d p n k k0 l a b (inr (inr (inl h))) =
    let z = simp laid_out at (scaled_le (neg_ℤ (d +ℤ d)) (low +ℤ high) k k0 h.nearer) in
    let y = scaled_le high d k k0 h.short in
    rw h.is (inl (omega (arith, ints), omega (arith, ints), omega (arith, ints)))
crest_order low high d p n k k0 l a b (inr (inr (inr h))) =
    let z = simp laid_out at (scaled_le (low +ℤ high) (neg_ℤ (d +ℤ d)) k k0 h.nearer) in
    rw h.is (inr (inr (omega (arith, ints), omega (arith, ints))))

pub cosine_peak : (r : Range) (p : ℤ) → IsNearest r.low r.high p
    → IsPeak cosine r.low r.high (unsigned_abs r.den) p
cosine_peak r p h = peak cosine r p (omega (arith, ints)) (omega (arith, ints))
    (λ n k k0 a b u w. cosines_ordered (p *ℤ pos k) n (unsigned_abs r.den * k) u w
    (near_order r.low r.high p n (pos k) (omega (arith, ints)) a b h))

pub cosine_trough : (r : Range) (p : ℤ) → IsFarthest r.low r.high p
    → IsPeak (turned cosine) r.low r.high (unsigned_abs r.den) p
cosine_trough r p h = peak (turned cosine) r p (omega (arith, ints)) (omega (arith, ints))
    (λ n k k0 a b u w. let c : ℕ = unsigned_abs r.den * k in
    other_sign (cosine (p *ℤ pos k) c) (squares n c) (cosine n c) (squares (p *ℤ pos k) c)
    (cosines_ordered n (p *ℤ pos k) c w u (far_order r.low r.high p n (pos k) (omega (arith, ints)) a b h)))

own_den : (r : Range) (k : ℕ) → r.den *ℤ pos k ≡ pos (unsigned_abs r.den * k)
own_den r k = let e : r.den ≡ pos (unsigned_abs r.den) = omega (arith, ints) in
    ap (λ z. z *ℤ pos k) e

pub sine_peak : (r : Range) (p : ℤ) → IsCrest r.low r.high r.den p
    → IsPeak sine r.low r.high (unsigned_abs r.den) p
sine_peak r p h = peak sine r p (omega (arith, ints)) (omega (arith, ints))
    (λ n k k0 a b u w. let e : r.den *ℤ pos k ≡ pos (unsigned_abs r.den * k) = own_den r k in
    sines_ordered (p *ℤ pos k) n (unsigned_abs r.den * k) u w
    (rw e at (crest_order r.low r.high r.den p n (pos k) (omega (arith, ints)) (omega (arith, ints)) a b h)))

pub sine_trough : (r : Range) (p : ℤ) → IsCrest (neg_ℤ r.high) (neg_ℤ r.low) r.den (neg_ℤ p)
    → IsPeak (turned sine) r.low r.high (unsigned_abs r.den) p
sine_trough r p h = peak (turned sine) r p (omega (arith, ints)) (omega (arith, ints))
    (λ n k k0 a b u w. let c : ℕ = unsigned_abs r.den * k in
    let e : r.den *ℤ pos k ≡ pos (unsigned_abs r.den * k) = own_den r k in
    let o = crest_order (neg_ℤ r.high) (neg_ℤ r.low) r.den (neg_ℤ p) (neg_ℤ n) (pos k) (omega (arith, ints))
    (omega (arith, ints)) (omega (arith, ints, b, mul_neg_right r.high (pos k)))
    (omega (arith, ints, a, mul_neg_right r.low (pos k))) h in
    other_sign (sine (p *ℤ pos k) c) (squares n c) (sine n c) (squares (p *ℤ pos k) c)
    (sines_ordered n (p *ℤ pos k) c w u
    (rw e at (other_order (p *ℤ pos k) n (r.den *ℤ pos k) (neg_ℤ p *ℤ pos k) (mul_neg_right p (pos k)) o))))
  where
    other_order : (m n d t : ℤ) → t ≡ neg_ℤ m → Higher t (neg_ℤ n) d → Higher n m d
    other_order m n d t e (inl o) = inl (omega (arith, ints), omega (arith, ints), omega (arith, ints))
    other_order m n d t e (inr (inl o)) = inr (inr (omega (arith, ints), omega (arith, ints)))
    other_order m n d t e (inr (inr o)) = inr (inl (omega (arith, ints), omega (arith, ints)))

-- a fold that goes from a to b lies above what both lie above
pub moving_above : (low a b n k : ℤ) → pos 0 ≤ℤ n → n ≤ℤ k → low ≤ℤ a → low ≤ℤ b
    → (low *ℤ k) ≤ℤ (a *ℤ k +ℤ (b -ℤ a) *ℤ n)
moving_above low a b n k n0 nk la lb =
    let x = simp laid_out at (nonneg_product (a -ℤ low) (k -ℤ n) (omega (arith, sums))
    (omega (arith, sums))) in
    let y = simp laid_out at (nonneg_product (b -ℤ low) n (omega (arith, sums)) n0) in
    simp laid_out (omega (arith, sums))

pub moving_below : (high a b n k : ℤ) → pos 0 ≤ℤ n → n ≤ℤ k → a ≤ℤ high → b ≤ℤ high
    → (a *ℤ k +ℤ (b -ℤ a) *ℤ n) ≤ℤ (high *ℤ k)
moving_below high a b n k n0 nk la lb =
    let x = simp laid_out at (nonneg_product (high -ℤ a) (k -ℤ n) (omega (arith, sums))
    (omega (arith, sums))) in
    let y = simp laid_out at (nonneg_product (high -ℤ b) n (omega (arith, sums)) n0) in
    simp laid_out (omega (arith, sums))
