-- Bounds of the rate are those that a span's slope needs.
use Rattle.std.proofs.Common.{refl, ◌≡◌, ℕ, ◌*◌, ◌<◌, ◌⊎◌, inl, inr, ℤ, pos, negsuc, neg_ℤ, ◌+ℤ◌, ◌-ℤ◌}
use Rattle.std.proofs.Common.{◌*ℤ◌, ◌≤ℤ◌, ◌<ℤ◌, unsigned_abs, arith, ap, sym, subst, ◌∙◌}
use Rattle.std.proofs.lemmas.Int.{ints, by_lt_z}
use Rattle.carton_base.specs.Rounding.{unit}
use Rattle.carton_base.specs.Fractions.{IsRounded}
use Rattle.carton_base.specs.Moments.{IsMoment}
use Rattle.carton_base.proofs.Products.{mul_assoc_ℤ}
use Rattle.carton_model.specs.HalfTurns.{square_sum, moving, Leads}
use Rattle.carton_base.specs.declared.numbers.Bounds.{Bounds}
use Rattle.carton_halfturn.specs.declared.folds.Fold.{Fold}
use Rattle.carton_halfturn.specs.declared.spans.FoldSpan.{FoldSpan}
use Rattle.carton_halfturn.specs.Values.{HasFolds}
use Rattle.carton_halfturn.specs.Spans.{IsOneWay, IsSmooth, IsEven, IsRangeOf, InOneStretch, Within}
use Rattle.carton_halfturn.specs.Slopes.{IsRate, IsBend, IsReach, IsGentle, IsModest}
use Rattle.carton_base.proofs.Polynomials.{laid_out, sums, nonneg_product, nonneg_square, cancel}
use Rattle.carton_halfturn.proofs.Forms.{Form, turned, turned_form, squares, steep_at}
use Rattle.carton_halfturn.proofs.Forms.{squares_positive, other_sign}
use Rattle.carton_halfturn.proofs.Scaling.{square_sum_scaled, form_scaled, scaled_most, scaled_least}
use Rattle.carton_halfturn.proofs.Scaling.{at_start}
use Rattle.carton_halfturn.proofs.Rates.{bent_gain, steep_gain}
use Rattle.carton_halfturn.proofs.Enclosing.{scaled_within, moment_within, positive_den}
use Rattle.carton_halfturn.proofs.Leading.{leads_from, here, start, end, bends}

swapped : (x v q : ℤ) → x *ℤ (v *ℤ q) ≡ (x *ℤ q) *ℤ v
swapped x v q = simp laid_out

-- the fold of the first end, written as those of its moments
same_start : (f : ℤ → ℕ → ℤ) → Form f → (a : ℤ) (e d : ℕ) → 0 < d
    → f a e *ℤ squares (a *ℤ pos d) (e * d) ≡ f (a *ℤ pos d) (e * d) *ℤ squares a e
same_start f F a e d d0 = ap (λ z. f a e *ℤ z) (square_sum_scaled a e d d0)
    ∙ swapped (f a e) (squares a e) (pos d *ℤ pos d)
    ∙ ap (λ z. z *ℤ squares a e) (sym (form_scaled f F a e d d0))

still_there : (f : ℤ → ℕ → ℤ) → Form f → (a b : ℤ) (e n d : ℕ) → 0 < d → n ≡ 0
    → f (moving a b n d) (e * d) *ℤ squares a e ≡ f a e *ℤ squares (moving a b n d) (e * d)
still_there f F a b e n d d0 z = let m = at_start a b n d z in ap (λ t. f t (e * d) *ℤ squares a e) m
    ∙ sym (same_start f F a e d d0) ∙ ap (λ t. f a e *ℤ squares t (e * d)) (sym m)

-- how far the fold goes up to the moment
so_far : (a b n k g : ℤ) → pos 0 ≤ℤ n → (b -ℤ a) ≤ℤ g → (a *ℤ k +ℤ (b -ℤ a) *ℤ n -ℤ a *ℤ k) ≤ℤ (n *ℤ g)
so_far a b n k g n0 w =
    let p = simp laid_out at (nonneg_product n (g -ℤ (b -ℤ a)) n0 (omega (arith, sums))) in
    simp laid_out (omega (arith, sums))

as_far : (a b n k g : ℤ) → pos 0 ≤ℤ n → (a -ℤ b) ≤ℤ g → (a *ℤ k -ℤ (a *ℤ k +ℤ (b -ℤ a) *ℤ n)) ≤ℤ (n *ℤ g)
as_far a b n k g n0 w = simp laid_out (let p = simp laid_out at
    (so_far (neg_ℤ a) (neg_ℤ b) n k g n0 (omega (arith, ints))) in omega (arith, sums))

exchanged : (x v w c : ℤ) → x ≤ℤ (pos 2 *ℤ (c *ℤ (v *ℤ w))) → x ≤ℤ (pos 2 *ℤ (c *ℤ (w *ℤ v)))
exchanged x v w c h = simp laid_out (let k = simp laid_out at h in k)

-- what the rate hi is, for a value of at least p at the first end and at most q at the last
data Rise (s : FoldSpan) (p q hi : ℤ) : Type 0 where
  by_chord : IsSmooth s → (r : ℤ) → IsBend s r → hi ≡ q -ℤ p +ℤ r → Rise s p q hi
  by_steepness : IsReach s hi → Rise s p q hi

rises : (f : ℤ → ℕ → ℤ) → Form f → (s : FoldSpan) (n d : ℕ) → IsMoment n d → (p q hi : ℤ) → Rise s p q hi
    → (p *ℤ squares s.from (unsigned_abs s.den)) ≤ℤ (f s.from (unsigned_abs s.den) *ℤ unit)
    → (f s.to (unsigned_abs s.den) *ℤ unit) ≤ℤ (q *ℤ squares s.to (unsigned_abs s.den))
    → (((here f s n d *ℤ start squares s d -ℤ start f s d *ℤ here squares s n d) *ℤ pos d) *ℤ unit)
    ≤ℤ (hi *ℤ (pos n *ℤ (start squares s d *ℤ here squares s n d)))
rises f F s n d m p q hi (by_chord smooth r bend e) first last =
    let c : ℕ = unsigned_abs s.den in
    let own : pos (unsigned_abs s.den) ≡ s.den = omega (arith, ints) in
    let some = squares_positive (s.to *ℤ pos d) (c * d)
    (positive_den c d (omega (arith, ints)) m.some) (scaled_within s.to c d m.some s.second) in
    rw e (bent_gain (pos d) (pos n) (pos c) (s.to -ℤ s.from) unit (here f s n d) (here squares s n d)
    (start f s d) (start squares s d) (end f s d) (end squares s d) p q r
    record {
      moment = omega (arith, ints);
      den = omega (arith, ints);
      units = omega (arith, ints);
      here = omega (arith, ints);
      first = omega (arith, ints);
      last = some;
    } (bends f F s n d m smooth.one_way) (scaled_least f F p s.from c d m.some first)
    (scaled_most f F q s.to c d m.some last)
    (subst (λ z. ((pos 2 *ℤ ((s.to -ℤ s.from) *ℤ (s.to -ℤ s.from))) *ℤ unit) ≤ℤ (r *ℤ (z *ℤ z))) (sym own)
    bend.above))
rises f F s n d m p q hi (by_steepness reach) first last =
    let c : ℕ = unsigned_abs s.den in
    let g : ℤ = pos (unsigned_abs (s.to -ℤ s.from)) in
    let own : pos (unsigned_abs s.den) ≡ s.den = omega (arith, ints) in
    let n0 : pos 0 ≤ℤ pos n = omega (arith, ints) in
    let vw = nonneg_product (start squares s d) (here squares s n d) (omega (arith, ints))
    (omega (arith, ints)) in
    steep_gain (pos d) (pos n) (pos c) g unit
    (here f s n d *ℤ start squares s d -ℤ start f s d *ℤ here squares s n d)
    (start squares s d *ℤ here squares s n d) hi (omega (arith, ints)) (omega (arith, ints)) n0 vw
    (exchanged ((here f s n d *ℤ start squares s d -ℤ start f s d *ℤ here squares s n d) *ℤ pos (c * d))
    (here squares s n d) (start squares s d) (pos n *ℤ g)
    (steep_at f F (moving s.from s.to n d) (s.from *ℤ pos d) (pos n *ℤ g) (c * d)
    (positive_den c d (omega (arith, ints)) m.some) (moment_within s n d m)
    (scaled_within s.from c d m.some s.first) (so_far s.from s.to (pos n) (pos d) g n0 (omega (arith, ints)))
    (as_far s.from s.to (pos n) (pos d) g n0 (omega (arith, ints))))) (rw own reach.above)

fall_back : (x v x0 v0 k n u lo : ℤ)
    → (((neg_ℤ x *ℤ v0 -ℤ neg_ℤ x0 *ℤ v) *ℤ k) *ℤ u) ≤ℤ (neg_ℤ lo *ℤ (n *ℤ (v0 *ℤ v)))
    → (lo *ℤ (n *ℤ (v0 *ℤ v))) ≤ℤ (((x *ℤ v0 -ℤ x0 *ℤ v) *ℤ k) *ℤ u)
fall_back x v x0 v0 k n u lo h = simp laid_out (let m = simp laid_out at h in omega (arith, sums))

falls : (s : FoldSpan) (a b rate : Bounds) → IsRate s a b rate
    → Rise s (neg_ℤ a.hi) (neg_ℤ b.lo) (neg_ℤ rate.lo)
falls s a b rate (inl h) = by_chord h.smooth h.r h.bend (omega (arith, ints))
falls s a b rate (inr h) =
    let e : rate.hi ≡ neg_ℤ rate.lo = omega (arith, ints) in
    by_steepness (subst (λ z. IsReach s z) e h.most)

climbs : (s : FoldSpan) (a b rate : Bounds) → IsRate s a b rate → Rise s a.lo b.hi rate.hi
climbs s a b rate (inl h) = by_chord h.smooth h.r h.bend h.high
climbs s a b rate (inr h) = by_steepness h.most

pub leads : (v : ℤ → ℕ → ℤ) → Form v → (s : FoldSpan) (first last : Fold) (a b rate : Bounds)
    → HasFolds s first last
    → IsRounded (v first.num (unsigned_abs first.den)) (square_sum first.num (unsigned_abs first.den)) a.lo
    a.hi
    → IsRounded (v last.num (unsigned_abs last.den)) (square_sum last.num (unsigned_abs last.den)) b.lo b.hi
    → IsRate s a b rate → (n d : ℕ) → IsMoment n d
    → Leads rate.lo rate.hi (v s.from (unsigned_abs s.den)) (square_sum s.from (unsigned_abs s.den)) n d
    (here v s n d) (square_sum (moving s.from s.to n d) (unsigned_abs s.den * d))
leads v V s first last a b rate e p q r n d m =
    let c : ℕ = unsigned_abs s.den in
    let c0 : 0 < unsigned_abs s.den = omega (arith, ints) in
    let d0 = positive_den c d c0 m.some in
    let x = rw (e.from, e.from_den) at p in
    let y = rw (e.to, e.to_den) at q in
    let w = squares_positive (moving s.from s.to n d) (c * d) d0 (moment_within s n d m) in
    let w0 = squares_positive (s.from *ℤ pos d) (c * d) d0 (scaled_within s.from c d m.some s.first) in
    leads_from rate.lo rate.hi (v s.from c) (square_sum s.from c) n d (here v s n d)
    (square_sum (moving s.from s.to n d) (c * d)) (start v s d) (square_sum (s.from *ℤ pos d) (c * d))
    (omega (arith, ints)) (omega (arith, ints)) rate.ordered (same_start v V s.from c d m.some)
    (still_there v V s.from s.to c n d m.some)
    record {
      low = fall_back (here v s n d) (here squares s n d) (start v s d) (start squares s d) (pos d) (pos n)
          unit rate.lo (rises (turned v) (turned_form v V) s n d m (neg_ℤ a.hi) (neg_ℤ b.lo) (neg_ℤ rate.lo)
          (falls s a b rate r) (other_sign (v s.from c) unit a.hi (squares s.from c) x.up.above)
          (other_sign b.lo (squares s.to c) (v s.to c) unit y.down.below));
      high = rises v V s n d m a.lo b.hi rate.hi (climbs s a b rate r) x.down.below y.up.above;
    }

-- ---- which spans are smooth
held : {f : FoldSpan} {low high : ℤ} → low ≤ℤ f.from → f.from ≤ℤ high → low ≤ℤ f.to → f.to ≤ℤ high
    → Within f low high
held a b c d = record { from_low = a; from_high = b; to_low = c; to_high = d }

smooth_by : (f : FoldSpan) (low high : ℤ) → Within f low high → IsEven low high f.den → IsSmooth f
smooth_by f low high w h = record { near = omega (arith, ints); one_way = way h.side }
  where
    way : (f.den ≤ℤ low) ⊎ (high ≤ℤ neg_ℤ f.den) ⊎ ((neg_ℤ f.den ≤ℤ low) × (high ≤ℤ f.den)) → IsOneWay f
    way (inl s) = inr (inl (held (omega (arith, ints)) (omega (arith, ints))
        (omega (arith, ints)) (omega (arith, ints))))
    way (inr (inl s)) = inr (inr (held (omega (arith, ints)) (omega (arith, ints))
        (omega (arith, ints)) (omega (arith, ints))))
    way (inr (inr s)) = inl (held (omega (arith, ints)) (omega (arith, ints))
        (omega (arith, ints)) (omega (arith, ints)))

pub smooth_of : (f : FoldSpan) (low high d : ℤ) → IsRangeOf f low high d → IsEven low high d → IsSmooth f
smooth_of f low high d r h =
    smooth_by f low high (held r.from_low r.from_high r.to_low r.to_high) (rw r.den at h)

pub even_of : (f : FoldSpan) (low high d : ℤ) → IsRangeOf f low high d → IsSmooth f → IsEven low high d
even_of f low high d r h = record { near = omega (arith, ints); side = side h.one_way ends }
  where
    -- the least and the greatest fold are the ends
    ends : ((low ≡ f.from) × (high ≡ f.to)) ⊎ ((low ≡ f.to) × (high ≡ f.from))
    ends = by_lt_z f.to f.from (λ s. inr (omega (arith, ints), omega (arith, ints)))
        (λ s. inl (omega (arith, ints), omega (arith, ints)))

    side : IsOneWay f → ((low ≡ f.from) × (high ≡ f.to)) ⊎ ((low ≡ f.to) × (high ≡ f.from))
        → (d ≤ℤ low) ⊎ (high ≤ℤ neg_ℤ d) ⊎ ((neg_ℤ d ≤ℤ low) × (high ≤ℤ d))
    side (inl w) e = inr (inr (omega (arith, ints), omega (arith, ints)))
    side (inr (inl w)) e = inl (omega (arith, ints))
    side (inr (inr w)) e = inr (inl (omega (arith, ints)))

smooth_in_stretch : (f : FoldSpan) → InOneStretch f → IsSmooth f
smooth_in_stretch f (inl h) = smooth_by f _ _ h
    record { near = omega (arith, ints); side = inr (inl (omega (arith, ints))) }
smooth_in_stretch f (inr (inl h)) = smooth_by f _ _ h
    record { near = omega (arith, ints); side = inr (inr (omega (arith, ints), omega (arith, ints))) }
smooth_in_stretch f (inr (inr (inl h))) = smooth_by f _ _ h
    record { near = omega (arith, ints); side = inr (inr (omega (arith, ints), omega (arith, ints))) }
smooth_in_stretch f (inr (inr (inr h))) = smooth_by f _ _ h
    record { near = omega (arith, ints); side = inl (omega (arith, ints)) }

-- twice a bend, and the four ends' rounding, in squares q of den
at_most_one : (a b q : ℤ) → pos 0 ≤ℤ q → (b -ℤ a) ≤ℤ pos 1 → ((b -ℤ a) *ℤ q) ≤ℤ q
at_most_one a b q q0 h =
    let m = simp laid_out at (nonneg_product (pos 1 -ℤ (b -ℤ a)) q (omega (arith, sums)) q0) in
    simp laid_out (omega (arith, ints))

widths : (a0 b0 a1 b1 r q : ℤ) → (b1 -ℤ a0 +ℤ r -ℤ (a1 -ℤ b0 -ℤ r)) *ℤ q ≡ (b1 -ℤ a1) *ℤ q +ℤ (b0 -ℤ a0) *ℤ q
    +ℤ r *ℤ q +ℤ r *ℤ q
widths a0 b0 a1 b1 r q = simp laid_out (omega (arith, sums))

gentle : (a0 b0 a1 b1 r q t : ℤ) → pos 0 ≤ℤ q → pos 0 ≤ℤ t → (b0 -ℤ a0) ≤ℤ pos 1 → (b1 -ℤ a1) ≤ℤ pos 1
    → (r *ℤ q -ℤ q) <ℤ (pos 2 *ℤ t)
    → ((b1 -ℤ a0 +ℤ r -ℤ (a1 -ℤ b0 -ℤ r)) *ℤ q) ≤ℤ (pos 16 *ℤ t +ℤ pos 16 *ℤ q)
gentle a0 b0 a1 b1 r q t q0 t0 one two next =
    rw (widths a0 b0 a1 b1 r q) (omega (arith, ints, at_most_one a0 b0 q q0 one, at_most_one a1 b1 q q0 two))

gentle_rate : (f : FoldSpan) (a b rate : Bounds) → (a.hi -ℤ a.lo) ≤ℤ pos 1 → (b.hi -ℤ b.lo) ≤ℤ pos 1
    → IsRate f a b rate → InOneStretch f → IsGentle f rate.lo rate.hi
gentle_rate f a b rate one two (inl h) s =
    let step = nonneg_square (f.to -ℤ f.from) in
    let ss : ℤ = (f.to -ℤ f.from) *ℤ (f.to -ℤ f.from) in
    let next = rw (mul_assoc_ℤ (pos 2) ss unit) at h.bend.last in
    rw (h.low, h.high, mul_assoc_ℤ (pos 16) ss unit)
    (gentle a.lo a.hi b.lo b.hi h.r (f.den *ℤ f.den) (ss *ℤ unit) (nonneg_square f.den)
    (nonneg_product ss unit step (omega (arith, ints))) one two next)
gentle_rate f a b rate one two (inr h) s = absurd (h.rough (smooth_in_stretch f s))

-- a bend of r units against the reach of a step of size s
bend_modest : (r d s u : ℤ) → pos 0 <ℤ d → pos 0 ≤ℤ u → pos 0 ≤ℤ s → s ≤ℤ d → (r *ℤ (d *ℤ d) -ℤ d *ℤ d)
    <ℤ ((pos 2 *ℤ (s *ℤ s)) *ℤ u) → (r *ℤ d) ≤ℤ (d +ℤ pos 2 *ℤ (s *ℤ u))
bend_modest r d s u d0 u0 s0 half next =
    let m = simp laid_out at (nonneg_product (s *ℤ u) (d -ℤ s) (nonneg_product s u s0 u0)
    (omega (arith, sums))) in
    let k = simp laid_out at next in
    cancel (r *ℤ d) (d +ℤ pos 2 *ℤ (s *ℤ u)) d d0 (simp laid_out (omega (arith, sums)))

size_squared : (x : ℤ) → pos (unsigned_abs x) *ℤ pos (unsigned_abs x) ≡ x *ℤ x
size_squared (pos n) = refl
size_squared (negsuc n) = refl

modest_rate : (f : FoldSpan) (a b rate : Bounds) → (a.hi -ℤ a.lo) ≤ℤ pos 1 → (b.hi -ℤ b.lo) ≤ℤ pos 1
    → IsRate f a b rate → IsModest f rate.lo rate.hi
modest_rate f a b rate one two (inl h) =
    let s : ℤ = pos (unsigned_abs (f.to -ℤ f.from)) in
    let d0 : pos 0 ≤ℤ f.den = omega (arith, ints) in
    let next : (h.r *ℤ (f.den *ℤ f.den) -ℤ f.den *ℤ f.den) <ℤ ((pos 2 *ℤ (s *ℤ s)) *ℤ unit) =
    subst (λ z. (h.r *ℤ (f.den *ℤ f.den) -ℤ f.den *ℤ f.den) <ℤ ((pos 2 *ℤ z) *ℤ unit))
    (sym (size_squared (f.to -ℤ f.from))) h.bend.last in
    let m = bend_modest h.r f.den s unit f.positive (omega (arith, ints)) (omega (arith, ints))
    (omega (arith, ints)) next in
    rw (h.low, h.high, widths a.lo a.hi b.lo b.hi h.r f.den)
    (omega (arith, ints, at_most_one a.lo a.hi f.den d0 one, at_most_one b.lo b.hi f.den d0 two, m))
modest_rate f a b rate one two (inr h) =
    let twice : (rate.hi -ℤ neg_ℤ rate.hi) *ℤ f.den ≡ rate.hi *ℤ f.den +ℤ rate.hi *ℤ f.den =
    simp laid_out (omega (arith, sums)) in
    let next = h.most.last in
    rw (h.low, twice) (omega (arith, ints))

-- the spread of rates of bounds that are at most a unit apart
pub sized_rate : (f : FoldSpan) (a b rate : Bounds) → (a.hi -ℤ a.lo) ≤ℤ pos 1 → (b.hi -ℤ b.lo) ≤ℤ pos 1
    → IsRate f a b rate → (InOneStretch f → IsGentle f rate.lo rate.hi) × IsModest f rate.lo rate.hi
sized_rate f a b rate one two r = (gentle_rate f a b rate one two r, modest_rate f a b rate one two r)
