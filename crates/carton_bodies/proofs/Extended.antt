-- The extent of a box that moves evenly, by the times at which a piece of its move begins and ends.
use Rattle.std.proofs.Common.{◌≡◌, ◌∙◌, sym, ap, subst, ℕ, zero, suc, ◌+◌, ◌*◌, ◌^◌, ◌<◌, ◌≤◌, List, [], ◌∷◌}
use Rattle.std.proofs.Common.{ℤ, pos, neg_ℤ, ◌+ℤ◌, ◌*ℤ◌, ◌≤ℤ◌, ◌<ℤ◌, unsigned_abs, arith, SFits}
use Rattle.std.specs.Int.{int_min, int_max, w8}
use Rattle.std.proofs.lemmas.Int.{ints, clamps}
use Rattle.carton_base.proofs.Products.{Between, mul_le_right, mul_add_right, corners_below}
use Rattle.carton_base.proofs.Polynomials.{laid_out, sums, cancel, mul_add_left}
use Rattle.carton_base.specs.Directions.{IsSign}
use Rattle.carton_base.specs.Moments.{IsMoment, InPiece}
use Rattle.carton_base.specs.Rounding.{unit}
use Rattle.carton_model.specs.Parting.{along}
use Rattle.carton_bodies.specs.Bodies.{stroke_along}
use Rattle.carton_bodies.specs.Boxes.{IsBox}
use Rattle.carton_enclose.specs.Points.{AreSigns}
use Rattle.carton_reach.specs.Axes.{axis_at}
use Rattle.carton_reach.proofs.Directions.{axis_is}
use Rattle.carton_part.proofs.Walks.{power_some}
use Rattle.carton_bodies.specs.declared.extent.Extent.{Extent}
use Rattle.carton_bodies.specs.declared.moving.Moving.{Moving}
use Rattle.carton_bodies.specs.declared.span.Span.{Span}
use Rattle.carton_bodies.specs.Extents.{holds, IsExtent, IsExtentBy, least_on, greatest_on}
use Rattle.carton_bodies.specs.Spans.{IsSpan}
use Rattle.carton_bodies.proofs.Boxes.{IsPlaceAt, part, from_faces, to_faces, least_below, greatest_above}
use Rattle.carton_bodies.proofs.Boxes.{least_there, greatest_there, min_left, min_right, max_left, max_right}
use Rattle.carton_bodies.proofs.Boxes.{weak}

-- f and g are the times from the start x / p to the end y / p of a piece of move i, in units of u to a move
during_from : (f p u i x n d : ℤ) → pos 0 <ℤ p → pos 0 ≤ℤ u → f *ℤ p ≡ (i *ℤ p +ℤ x) *ℤ u
    → (x *ℤ d) ≤ℤ (n *ℤ p) → (f *ℤ d) ≤ℤ ((i *ℤ d +ℤ n) *ℤ u)
during_from f p u i x n d pp pu e h =
    let a = simp laid_out at (mul_le_right (x *ℤ d) (n *ℤ p) u h pu) in
    let b = simp laid_out at (ap (λ z. z *ℤ d) e) in
    cancel (f *ℤ d) ((i *ℤ d +ℤ n) *ℤ u) p pp (simp laid_out (omega (arith, sums, a, b)))

during_upto : (g p u i y n d : ℤ) → pos 0 <ℤ p → pos 0 ≤ℤ u → g *ℤ p ≡ (i *ℤ p +ℤ y) *ℤ u
    → (n *ℤ p) ≤ℤ (y *ℤ d) → ((i *ℤ d +ℤ n) *ℤ u) ≤ℤ (g *ℤ d)
during_upto g p u i y n d pp pu e h =
    let a = simp laid_out at (mul_le_right (n *ℤ p) (y *ℤ d) u h pu) in
    let b = simp laid_out at (ap (λ z. z *ℤ d) e) in
    cancel ((i *ℤ d +ℤ n) *ℤ u) (g *ℤ d) p pp (simp laid_out (omega (arith, sums, a, b)))

lifted : (a b c d : ℕ) → a * b ≤ c * d → (pos a *ℤ pos b) ≤ℤ (pos c *ℤ pos d)
lifted a b c d h = omega (arith, ints, h)

time_is : (i n d : ℕ) → pos i *ℤ pos d +ℤ pos n ≡ pos (i * d + n)
time_is i n d = omega (arith, ints)

-- the moment n / d of move i lies between the times
record IsDuring (times : Span) (i n d : ℕ) : Type 0 where
  from : (times.from *ℤ pos d) ≤ℤ (pos (i * d + n) *ℤ unit)
  upto : (pos (i * d + n) *ℤ unit) ≤ℤ (times.upto *ℤ pos d)

in_times : (i index depth n d : ℕ) (times : Span) → IsSpan i index depth times → InPiece index depth n d
    → IsDuring times i n d
in_times i index depth n d times h c =
    let p : pos 0 <ℤ pos (2 ^ depth) = let s = power_some depth in omega (arith, ints, s) in
    let u : pos 0 ≤ℤ unit = omega (arith, ints) in
    record {
      from = subst (λ z. (times.from *ℤ pos d) ≤ℤ (z *ℤ unit)) (time_is i n d)
          (during_from times.from (pos (2 ^ depth)) unit (pos i) (pos index) (pos n) (pos d) p u h.from
          (lifted index d n (2 ^ depth) c.from));
      upto = subst (λ z. (z *ℤ unit) ≤ℤ (times.upto *ℤ pos d)) (time_is i n d)
          (during_upto times.upto (pos (2 ^ depth)) unit (pos i) (pos (index + 1)) (pos n) (pos d) p u h.upto
          (lifted n (2 ^ depth) (index + 1) d c.upto));
    }

same : (a : ℤ) → Between a a a
same a = record { from = omega (arith, ints); upto = omega (arith, ints) }

-- how far the body has shifted at the time t / d lies between how far it has at both ends
back_below : (speed f g d t u m : ℤ) → pos 0 ≤ℤ d → m ≤ℤ (speed *ℤ f) → m ≤ℤ (speed *ℤ g)
    → (f *ℤ d) ≤ℤ (t *ℤ u) → (t *ℤ u) ≤ℤ (g *ℤ d) → (m *ℤ d) ≤ℤ ((speed *ℤ t) *ℤ u)
back_below speed f g d t u m nd mf mg hf hg =
    let a : (m *ℤ d) ≤ℤ (speed *ℤ (f *ℤ d)) = let s =
    simp laid_out at (mul_le_right m (speed *ℤ f) d mf nd) in simp laid_out s in
    let b : (m *ℤ d) ≤ℤ (speed *ℤ (g *ℤ d)) = let s =
    simp laid_out at (mul_le_right m (speed *ℤ g) d mg nd) in simp laid_out s in
    let all = simp laid_out at (corners_below speed speed (f *ℤ d) (g *ℤ d) speed (t *ℤ u) (m *ℤ d)
    (same speed) (record { from = hf; upto = hg }) a b a b) in
    simp laid_out all

ahead_above : (speed f g d t u m : ℤ) → pos 0 ≤ℤ d → (speed *ℤ f) ≤ℤ m → (speed *ℤ g) ≤ℤ m
    → (f *ℤ d) ≤ℤ (t *ℤ u) → (t *ℤ u) ≤ℤ (g *ℤ d) → ((speed *ℤ t) *ℤ u) ≤ℤ (m *ℤ d)
ahead_above speed f g d t u m nd mf mg hf hg =
    let a : neg_ℤ m ≤ℤ (neg_ℤ speed *ℤ f) = simp laid_out (omega (arith, sums, mf)) in
    let b : neg_ℤ m ≤ℤ (neg_ℤ speed *ℤ g) = simp laid_out (omega (arith, sums, mg)) in
    let l = simp laid_out at (back_below (neg_ℤ speed) f g d t u (neg_ℤ m) nd a b hf hg) in
    simp laid_out (omega (arith, sums, l))

-- y / w lies along the direction; it reached l before it shifted by s / d
above_low : (l u back d s w y : ℤ) → pos 0 <ℤ d → pos 0 ≤ℤ w → pos 0 ≤ℤ u → (back *ℤ d) ≤ℤ (s *ℤ u)
    → ((l *ℤ d +ℤ s) *ℤ w) ≤ℤ (y *ℤ d) → ((l *ℤ u +ℤ back) *ℤ w) ≤ℤ (y *ℤ u)
above_low l u back d s w y pd nw nu hb hy =
    let a = simp laid_out at (mul_le_right (back *ℤ d) (s *ℤ u) w hb nw) in
    let b = simp laid_out at (mul_le_right ((l *ℤ d +ℤ s) *ℤ w) (y *ℤ d) u hy nu) in
    cancel ((l *ℤ u +ℤ back) *ℤ w) (y *ℤ u) d pd (simp laid_out (omega (arith, sums, a, b)))

below_high : (g u ahead d s w y : ℤ) → pos 0 <ℤ d → pos 0 ≤ℤ w → pos 0 ≤ℤ u → (s *ℤ u) ≤ℤ (ahead *ℤ d)
    → (y *ℤ d) ≤ℤ ((g *ℤ d +ℤ s) *ℤ w) → (y *ℤ u) ≤ℤ ((g *ℤ u +ℤ ahead) *ℤ w)
below_high g u ahead d s w y pd nw nu ha hy =
    let a = simp laid_out at (mul_le_right (s *ℤ u) (ahead *ℤ d) w ha nw) in
    let b = simp laid_out at (mul_le_right (y *ℤ d) ((g *ℤ d +ℤ s) *ℤ w) u hy nu) in
    cancel (y *ℤ u) ((g *ℤ u +ℤ ahead) *ℤ w) d pd (simp laid_out (omega (arith, sums, a, b)))

unit_some : pos 0 ≤ℤ unit
unit_some = omega (arith, ints)

-- a body during its move, seen along a direction
record IsSeen (b : Moving) (u v s : ℤ) (times : Span) (n d : ℕ) : Type 0 where
  some : pos 0 <ℤ pos d
  back : (int_min (stroke_along u v s b.stroke *ℤ times.from) (stroke_along u v s b.stroke *ℤ times.upto)
      *ℤ pos d) ≤ℤ ((stroke_along u v s b.stroke *ℤ pos (b.step * d + n)) *ℤ unit)
  ahead : ((stroke_along u v s b.stroke *ℤ pos (b.step * d + n)) *ℤ unit)
      ≤ℤ (int_max (stroke_along u v s b.stroke *ℤ times.from) (stroke_along u v s b.stroke *ℤ times.upto)
      *ℤ pos d)

seen : (b : Moving) (u v s : ℤ) (times : Span) (index depth n d : ℕ) → IsSpan b.step index depth times
    → IsMoment n d → InPiece index depth n d → IsSeen b u v s times n d
seen b u v s times index depth n d h m c =
    let during = in_times b.step index depth n d times h c in
    let speed = stroke_along u v s b.stroke in
    let f = speed *ℤ times.from in
    let g = speed *ℤ times.upto in
    record {
      some = let k = m.some in omega (arith, ints, k);
      back = back_below speed times.from times.upto (pos d) (pos (b.step * d + n)) unit _
          (omega (arith, ints)) (min_left f g) (min_right f g) during.from during.upto;
      ahead = ahead_above speed times.from times.upto (pos d) (pos (b.step * d + n)) unit _
          (omega (arith, ints)) (max_left f g) (max_right f g) during.from during.upto;
    }

-- how far the place reaches, times d, is how far it reaches in units of 1 / d, times its w
times_w : (y d m s w : ℤ) → w ≡ d → y ≡ m *ℤ d +ℤ s → y *ℤ d ≡ (m *ℤ d +ℤ s) *ℤ w
times_w y d m s w ew ey = ap (λ z. z *ℤ d) ey ∙ ap (λ z. (m *ℤ d +ℤ s) *ℤ z) (sym ew)

no_less : (a b : ℤ) → a ≡ b → a ≤ℤ b
no_less a b h = omega (arith, ints, h)

-- a place of the box is one of the body at the moment n / d of its move
in_body : (b : Moving) (n d : ℕ) (u v s m : ℤ) → pos 0 <ℤ pos d
    → (h : IsPlaceAt u v s b.shape b.stroke (pos d) (pos (b.step * d + n)) m) → holds b n d h.q
in_body b n d u v s m some h = record {
  positive = subst (λ z. pos 0 <ℤ z) (sym h.w) some;
  inside = to_faces b.shape b.stroke b.step n d h.q h.inside;
}

-- depth 36 has pieces of 2^-36 of a move
short : (i index depth : ℕ) (times : Span) → depth ≡ 36 → IsSpan i index depth times
    → times.upto ≡ times.from +ℤ pos 16
short i index depth times e h =
    let f : times.from *ℤ pos (2 ^ 36) ≡ (pos i *ℤ pos (2 ^ 36) +ℤ pos index) *ℤ unit =
    subst (λ k. times.from *ℤ pos (2 ^ k) ≡ (pos i *ℤ pos (2 ^ k) +ℤ pos index) *ℤ unit) e h.from in
    let g : times.upto *ℤ pos (2 ^ 36) ≡ (pos i *ℤ pos (2 ^ 36) +ℤ pos (index + 1)) *ℤ unit =
    subst (λ k. times.upto *ℤ pos (2 ^ k) ≡ (pos i *ℤ pos (2 ^ k) +ℤ pos (index + 1)) *ℤ unit) e h.upto in
    omega (
      arith,
      ints,
      f,
      g,
      mul_add_right (pos i *ℤ pos (2 ^ 36)) (pos index) unit,
      mul_add_right
          (pos i *ℤ pos (2 ^ 36)) (pos (index + 1)) unit,
    )

close : (speed f g : ℤ) → unsigned_abs speed ≤ 2 ^ 33 → g ≡ f +ℤ pos 16 → int_max (speed *ℤ f) (speed *ℤ g)
    ≤ℤ (int_min (speed *ℤ f) (speed *ℤ g) +ℤ pos (2 ^ 38))
close speed f g small e =
    let s : speed *ℤ g ≡ speed *ℤ f +ℤ speed *ℤ pos 16 = ap (λ z. speed *ℤ z) e
    ∙ mul_add_left speed f (pos 16) in
    omega (arith, ints, clamps, small, s)

close_by : (l back ahead low high : ℤ) → low ≡ l +ℤ back → high ≡ l +ℤ ahead → ahead ≤ℤ (back +ℤ pos (2 ^ 38))
    → high ≤ℤ (low +ℤ pos (2 ^ 38))
close_by l back ahead low high el eh h = omega (arith, ints, el, eh, h)

is_extent : (b : Moving) (index depth : ℕ) (u v s : ℤ) (times : Span) (e : Extent) → IsBox b.shape
    → IsSpan b.step index depth times → unsigned_abs (stroke_along u v s b.stroke) ≤ 2 ^ 33
    → IsExtentBy (least_on u v s b.shape) (greatest_on u v s b.shape) (stroke_along u v s b.stroke) times e
    → IsExtent b index depth (u ∷ v ∷ s ∷ []) e
is_extent b index depth u v s times e box h small by =
    let speed = stroke_along u v s b.stroke in
    let near = least_on u v s b.shape in
    let far = greatest_on u v s b.shape in
    let t = λ (n d : ℕ). pos (b.step * d + n) in
    let at = λ (n d : ℕ) (m : IsMoment n d) (c : InPiece index depth n d). seen b u v s times index depth n d
    h m c in
    record {
      above = λ n d m c q i.
          let x = at n d m c in
          subst (λ z. (z *ℤ q.w) ≤ℤ (along u v s q *ℤ unit)) (sym by.least_low)
          (above_low near unit _ (pos d) (speed *ℤ t n d) q.w (along u v s q) x.some (weak _ _ i.positive)
          unit_some x.back
          (least_below u v s b.shape b.stroke (pos d) (t n d) q (weak _ _ x.some) (weak _ _ i.positive)
          (from_faces b.shape b.stroke b.step n d q i.inside)));
      below = λ n d m c q i.
          let x = at n d m c in
          subst (λ z. (along u v s q *ℤ unit) ≤ℤ (z *ℤ q.w)) (sym by.greatest_high)
          (below_high far unit _ (pos d) (speed *ℤ t n d) q.w (along u v s q) x.some (weak _ _ i.positive)
          unit_some x.ahead
          (greatest_above u v s b.shape b.stroke (pos d) (t n d) q (weak _ _ x.some) (weak _ _ i.positive)
          (from_faces b.shape b.stroke b.step n d q i.inside)));
      some_below = λ n d m c.
          let x = at n d m c in
          let y = least_there u v s b.shape b.stroke (pos d) (t n d) box (weak _ _ x.some) in
          let i = in_body b n d u v s near x.some y in (
            y.q,
            i,
            subst (λ z. (along u v s y.q *ℤ unit) ≤ℤ (z *ℤ y.q.w)) (sym by.least_high)
                (below_high near unit _ (pos d) (speed *ℤ t n d) y.q.w (along u v s y.q) x.some
                (weak _ _ i.positive) unit_some x.ahead
                (no_less _ _ (times_w (along u v s y.q) (pos d) near (speed *ℤ t n d) y.q.w y.w y.reach))),
          );
      some_above = λ n d m c.
          let x = at n d m c in
          let y = greatest_there u v s b.shape b.stroke (pos d) (t n d) box (weak _ _ x.some) in
          let i = in_body b n d u v s far x.some y in (
            y.q,
            i,
            subst (λ z. (z *ℤ y.q.w) ≤ℤ (along u v s y.q *ℤ unit)) (sym by.greatest_low)
                (above_low far unit _ (pos d) (speed *ℤ t n d) y.q.w (along u v s y.q) x.some
                (weak _ _ i.positive) unit_some x.back
                (no_less _ _
                (sym (times_w (along u v s y.q) (pos d) far (speed *ℤ t n d) y.q.w y.w y.reach)))),
          );
      close_lows = λ k. close_by (near *ℤ unit) _ _ e.least_low e.least_high by.least_low by.least_high
          (close speed times.from times.upto small (short b.step index depth times k h));
      close_highs = λ k. close_by (far *ℤ unit) _ _ e.greatest_low e.greatest_high by.greatest_low
          by.greatest_high (close speed times.from times.upto small (short b.step index depth times k h));
    }

-- the same, where the parts of the direction are read from an axis
pub extent_along : (b : Moving) (index depth a : ℕ) (v : List ℤ) (near far speed : ℤ) (times : Span)
    (e : Extent) → a < 13 → v ≡ axis_at a → IsBox b.shape → IsSpan b.step index depth times
    → near ≡ least_on (part v 0) (part v 1) (part v 2) b.shape
    → far ≡ greatest_on (part v 0) (part v 1) (part v 2) b.shape
    → speed ≡ stroke_along (part v 0) (part v 1) (part v 2) b.stroke
    → unsigned_abs speed ≤ 2 ^ 33 → IsExtentBy near far speed times e → IsExtent b index depth (axis_at a) e
extent_along b index depth a v near far speed times e lt is box h en ef es small by =
    let x = axis_is a lt in
    let ev : v ≡ x.u ∷ x.v ∷ x.t ∷ [] = is ∙ x.same in
    let n = en ∙ ap (λ w. least_on (part w 0) (part w 1) (part w 2) b.shape) ev in
    let f = ef ∙ ap (λ w. greatest_on (part w 0) (part w 1) (part w 2) b.shape) ev in
    let s = es ∙ ap (λ w. stroke_along (part w 0) (part w 1) (part w 2) b.stroke) ev in
    subst (λ w. IsExtent b index depth w e) (sym x.same)
    (is_extent b index depth x.u x.v x.t times e box h (subst (λ z. unsigned_abs z ≤ 2 ^ 33) s small)
    (subst (λ z. IsExtentBy z (greatest_on x.u x.v x.t b.shape) (stroke_along x.u x.v x.t b.stroke) times e) n
    (subst (λ z. IsExtentBy near z (stroke_along x.u x.v x.t b.stroke) times e) f
    (subst (λ z. IsExtentBy near far z times e) s by))))

-- the parts of an axis are -1, 0 or 1
pub signs_at : (a : ℕ) → a < 13 → AreSigns (axis_at a)
signs_at a lt = let x = axis_is a lt in subst AreSigns (sym x.same) (x.forward.x, x.forward.y, x.forward.z)

pub sign_at : (v : List ℤ) → AreSigns v → (k : ℕ) → IsSign (part v k)
sign_at [] h k = absurd h
sign_at (a ∷ []) h k = absurd h
sign_at (a ∷ b ∷ []) h k = absurd h
sign_at (a ∷ b ∷ c ∷ []) h zero = h.0
sign_at (a ∷ b ∷ c ∷ []) h (suc zero) = h.1
sign_at (a ∷ b ∷ c ∷ []) h (suc (suc zero)) = h.2
sign_at (a ∷ b ∷ c ∷ []) h (suc (suc (suc k))) =
    record { from = omega (arith, ints); upto = omega (arith, ints) }
sign_at (a ∷ b ∷ c ∷ d ∷ v) h k = absurd h

pub sign_fits_at : (v : List ℤ) → AreSigns v → (k : ℕ) → SFits w8 (part v k)
sign_fits_at v h k = let s = sign_at v h k in omega (arith, ints, s.from, s.upto)
