-- From bounds of a value, of its first value and of its slope to the ramp that has it.
use Rattle.std.proofs.Common.{◌≡◌, ◌∙◌, ap, sym, subst, ℕ, zero, suc, ◌+◌, ◌*◌, ◌^◌, ◌<◌, ◌≤◌, ℤ, pos, neg_ℤ}
use Rattle.std.proofs.Common.{◌+ℤ◌, ◌-ℤ◌, ◌*ℤ◌, ◌≤ℤ◌, ◌<ℤ◌, unsigned_abs, arith}
use Rattle.std.proofs.lemmas.Int.{ints}
use Rattle.std.proofs.lemmas.Nat.{mul-le}
use Rattle.carton_base.specs.Moments.{IsMoment}
use Rattle.carton_base.specs.Rounding.{IsBetween, unit}
use Rattle.carton_base.proofs.Products.{mul_assoc_ℤ, mul_comm_ℤ}
use Rattle.carton_base.proofs.Polynomials.{laid_out, sums, nonneg_product, positive_product, cancel}
use Rattle.carton_enclose.proofs.Ends.{scaled_up, meet_overlaps, same_fraction}
use Rattle.carton_model.specs.HalfTurns.{cosine, sine, square_sum, moving, Leads, Fold}
use Rattle.carton_model.specs.Turning.{angle_of}
use Rattle.carton_halfturn.specs.declared.spans.FoldSpan.{FoldSpan}
use Rattle.carton_halfturn.specs.Spans.{fold_num, fold_den, squares_at}
use Rattle.carton_halfturn.specs.Joints.{IsFiner}
use Rattle.carton_halfturn.proofs.Forms.{squares_positive}
use Rattle.carton_halfturn.proofs.Scaling.{cosine_scaled, sine_scaled, square_sum_scaled}
use Rattle.carton_place.specs.declared.swings.Ramp.{Ramp}
use Rattle.carton_place.specs.declared.swings.Swing.{Swing}
use Rattle.carton_place.specs.Held.{HoldsOnRamp, HoldsSwing}

-- a value that a slope leads to from its first value lies on the ramp
pub on_ramp : (r : Ramp) (a : ℤ) (w n d : ℕ) (x : ℤ) (v : ℕ) → 0 < w → IsBetween r.start.lo r.start.hi a w
    → IsBetween r.all.lo r.all.hi x v → Leads r.slope.lo r.slope.hi a w n d x v → HoldsOnRamp r n d x v
on_ramp r a w n d x v pw s all l =
    let t : l.over * w ≡ w * l.over = omega arith in
    let k1 : w * l.over * d ≡ w * (d * l.over) = omega arith in
    let k2 : (a *ℤ pos l.over) *ℤ pos d ≡ a *ℤ pos (d * l.over) =
    omega (arith, ints, mul_assoc_ℤ a (pos l.over) (pos d)) in
    let k3 : (l.rate *ℤ pos w) *ℤ pos n ≡ l.rate *ℤ pos (n * w) =
    omega (arith, ints, mul_assoc_ℤ l.rate (pos w) (pos n)) in
    let over : 0 < l.over = l.some in
    record {
      line = record {
        p = a *ℤ pos l.over;
        q = l.rate *ℤ pos w;
        u = w * l.over;
        some = grind arith;
        begins = scaled_up _ _ a w l.over pw l.some s;
        rate = subst (λ u. IsBetween r.slope.lo r.slope.hi (l.rate *ℤ pos w) u) t
            (scaled_up _ _ l.rate l.over w l.some pw l.within);
      };
      within = all;
      reached = ap (λ m. x *ℤ pos m) k1 ∙ l.reaches ∙ sym (λ i. (k2 i +ℤ k3 i) *ℤ pos v);
    }

-- bounds that both enclose the first value overlap
first_meets : (a b c e : ℤ) (x : ℤ) (v : ℕ) → 0 < v → IsBetween a b x v → IsBetween c e x v → (a ≤ℤ e)
    × (c ≤ℤ b)
first_meets a b c e x v p h k = meet_overlaps a b c e record {
  x = x;
  v = v;
  positive = p;
  in_first = h;
  in_second = k;
}

-- the fold of a span at its beginning
pub first_num : (f : FoldSpan) → fold_num f 0 1 ≡ f.from
first_num f = omega (arith, ints)

pub first_den : (f : FoldSpan) → fold_den f 1 ≡ unsigned_abs f.den
first_den f = omega arith

-- the fold of a span stays within two right angles
pub moving_within : (a b e : ℤ) (n d : ℕ) → n ≤ d → neg_ℤ e ≤ℤ a → a ≤ℤ e → neg_ℤ e ≤ℤ b → b ≤ℤ e
    → (neg_ℤ (e *ℤ pos d) ≤ℤ moving a b n d) × (moving a b n d ≤ℤ (e *ℤ pos d))
moving_within a b e n d h a0 a1 b0 b1 =
    let k : pos 0 ≤ℤ (pos d -ℤ pos n) = omega (arith, ints, h) in
    let m : pos 0 ≤ℤ pos n = omega (arith, ints) in
    let p = simp laid_out at (nonneg_product (a +ℤ e) (pos d -ℤ pos n) (omega (arith, ints, a0)) k) in
    let q = simp laid_out at (nonneg_product (b +ℤ e) (pos n) (omega (arith, ints, b0)) m) in
    let r = simp laid_out at (nonneg_product (e -ℤ a) (pos d -ℤ pos n) (omega (arith, ints, a1)) k) in
    let s = simp laid_out at (nonneg_product (e -ℤ b) (pos n) (omega (arith, ints, b1)) m) in
    (simp laid_out (omega (arith, sums, p, q)), simp laid_out (omega (arith, sums, r, s)))

pub some_squares_at : (f : FoldSpan) (n d : ℕ) → IsMoment n d → 0 < squares_at f n d
some_squares_at f n d m =
    let e = pos (2 * unsigned_abs f.den) in
    let w = moving_within f.from f.to e n d m.within (omega (arith, ints, f.first))
    (omega (arith, ints, f.first)) (omega (arith, ints, f.second)) (omega (arith, ints, f.second)) in
    let some : 0 < unsigned_abs f.den = omega (arith, ints, f.positive) in
    let more : 0 < d = m.some in
    let den : 0 < fold_den f d = grind arith in
    let z = squares_positive (fold_num f n d) (fold_den f d) den (omega (arith, ints, w.0, w.1)) in
    omega (arith, ints, z)

-- bounds of cosine or sine over a span bound the first value
at_first : (value : ℤ → ℕ → ℤ) (f : FoldSpan) (lo hi : ℤ)
    → ((n d : ℕ) → IsMoment n d → IsBetween lo hi (value (fold_num f n d) (fold_den f d)) (squares_at f n d))
    → IsBetween lo hi (value f.from (unsigned_abs f.den)) (square_sum f.from (unsigned_abs f.den))
at_first value f lo hi h =
    subst (λ e. IsBetween lo hi (value f.from e) (square_sum f.from e)) (first_den f)
    (subst (λ z. IsBetween lo hi (value z (fold_den f 1)) (square_sum z (fold_den f 1))) (first_num f)
    (h 0 1 record { within = omega arith; some = omega arith }))

pub some_first : (f : FoldSpan) → 0 < square_sum f.from (unsigned_abs f.den)
some_first f = let z = squares_positive f.from (unsigned_abs f.den) (omega (arith, ints, f.positive))
    f.first in omega (arith, ints, z)

-- bounds of the first value overlap those over the whole span
pub meets_at_first : (value : ℤ → ℕ → ℤ) (f : FoldSpan) (a b lo hi : ℤ)
    → IsBetween a b (value f.from (unsigned_abs f.den)) (square_sum f.from (unsigned_abs f.den))
    → ((n d : ℕ) → IsMoment n d → IsBetween lo hi (value (fold_num f n d) (fold_den f d)) (squares_at f n d))
    → (a ≤ℤ hi) × (lo ≤ℤ b)
meets_at_first value f a b lo hi s h =
    first_meets a b lo hi (value f.from (unsigned_abs f.den)) (square_sum f.from (unsigned_abs f.den))
    (some_first f) s (at_first value f lo hi h)

-- what has a finer writing of an angle has the angle
exchanged_factors : (x u q : ℤ) → (x *ℤ u) *ℤ q ≡ (x *ℤ q) *ℤ u
exchanged_factors x u q = mul_assoc_ℤ x u q ∙ ap (λ z. x *ℤ z) (mul_comm_ℤ u q) ∙ sym (mul_assoc_ℤ x q u)

same_by_factor : (a b q : ℤ) → pos 0 <ℤ q → a *ℤ q ≡ b *ℤ q → a ≡ b
same_by_factor a b q q0 e = let k = cancel a b q q0 (omega (arith, ints, e)) in
    let l = cancel b a q q0 (omega (arith, ints, e)) in omega (arith, ints, k, l)

coarser_ramp : (r : Ramp) (n d : ℕ) (x y : ℤ) (v w : ℕ) (q : ℤ) → pos 0 <ℤ q → 0 < v → y ≡ x *ℤ q
    → pos w ≡ pos v *ℤ q → HoldsOnRamp r n d y w → HoldsOnRamp r n d x v
coarser_ramp r n d x y v w q q0 v0 e f h =
    let u = pos (h.line.u * d) in
    let t = h.line.p *ℤ pos d +ℤ h.line.q *ℤ pos n in
    let w0 : 0 < w = let z = positive_product (pos v) q (omega (arith, ints, v0)) q0 in
    omega (arith, ints, z, f) in
    let crossed : y *ℤ pos v ≡ x *ℤ pos w = ap (λ z. z *ℤ pos v) e ∙ exchanged_factors x q (pos v)
    ∙ mul_assoc_ℤ x (pos v) q ∙ ap (λ z. x *ℤ z) (sym f) in
    let scaled : (x *ℤ u) *ℤ q ≡ (t *ℤ pos v) *ℤ q = exchanged_factors x u q ∙ ap (λ z. z *ℤ u) (sym e)
    ∙ h.reached ∙ ap (λ z. t *ℤ z) f ∙ sym (mul_assoc_ℤ t (pos v) q) in
    record {
      line = h.line;
      within = same_fraction r.all.lo r.all.hi y x w v w0 v0 crossed h.within;
      reached = same_by_factor (x *ℤ u) (t *ℤ pos v) q q0 scaled;
    }

pub coarser : (s : Swing) (m d : ℕ) (fold : Fold) (num : ℤ) (den k : ℕ) → 0 < k → IsFiner k fold num den
    → HoldsSwing s m d (angle_of record { num = num; den = den }) → HoldsSwing s m d (angle_of fold)
coarser s m d fold num den k k0 fine h =
    let q = pos k *ℤ pos k in
    let kp : pos 0 <ℤ pos k = omega (arith, ints, k0) in
    let q0 = positive_product (pos k) (pos k) kp kp in
    let c : cosine num den ≡ cosine fold.num fold.den *ℤ q = (λ i. cosine (fine.num i) (fine.den i))
    ∙ cosine_scaled fold.num fold.den k k0 in
    let s' : sine num den ≡ sine fold.num fold.den *ℤ q = (λ i. sine (fine.num i) (fine.den i))
    ∙ sine_scaled fold.num fold.den k k0 in
    let v : pos (square_sum num den) ≡ pos (square_sum fold.num fold.den) *ℤ q =
    (λ i. pos (square_sum (fine.num i) (fine.den i))) ∙ square_sum_scaled fold.num fold.den k k0 in
    let v0 : 0 < square_sum fold.num fold.den =
    some_factor (square_sum num den) (square_sum fold.num fold.den) q h.positive v in
    record {
      positive = v0;
      cos = coarser_ramp s.cos m d _ _ _ _ q q0 v0 c v h.cos;
      sin = coarser_ramp s.sin m d _ _ _ _ q q0 v0 s' v h.sin;
    }
  where
    some_factor : (a b : ℕ) (q : ℤ) → 0 < a → pos a ≡ pos b *ℤ q → 0 < b
    some_factor a zero q p e = absurd (omega (arith, ints, p, e))
    some_factor a (suc b) q p e = omega arith

-- bounds that are narrow for a span are close for its change
pub close_by : (lo hi : ℤ) (step change den : ℕ) → lo ≤ℤ hi → step ≤ change → ((hi -ℤ lo) *ℤ pos den)
    ≤ℤ (pos (2 * step) *ℤ unit +ℤ pos 2 *ℤ pos den) → unsigned_abs (hi -ℤ lo) * den
    ≤ 2 ^ 41 * change + 2 * den
close_by lo hi step change den h k n = by_natural (unsigned_abs (hi -ℤ lo)) (omega (arith, ints, h))
  where
    by_natural : (u : ℕ) → hi -ℤ lo ≡ pos u → u * den ≤ 2 ^ 41 * change + 2 * den
    by_natural u e = let m : (pos u *ℤ pos den) ≤ℤ (pos (2 * step) *ℤ unit +ℤ pos 2 *ℤ pos den) =
        subst (λ z. (z *ℤ pos den) ≤ℤ (pos (2 * step) *ℤ unit +ℤ pos 2 *ℤ pos den)) e n in
        omega (arith, ints, m, k)

-- a span that stands still
pub close_still : (lo hi : ℤ) (den : ℕ) → lo ≤ℤ hi → ((hi -ℤ lo) *ℤ pos 1) ≤ℤ pos 2
    → unsigned_abs (hi -ℤ lo) * den ≤ 2 ^ 41 * 0 + 2 * den
close_still lo hi den h n = let m : unsigned_abs (hi -ℤ lo) ≤ 2 = omega (arith, ints, h, n) in
    omega (arith, mul-le (unsigned_abs (hi -ℤ lo)) den 2 den m (omega arith))
