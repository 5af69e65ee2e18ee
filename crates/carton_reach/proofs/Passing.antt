-- Each fold of a move between two states is one of the folds of its joint's span.
use Rattle.std.proofs.Common.{◌≡◌, ◌∙◌, ap, sym, subst, ℕ, ◌*◌, ◌<◌, ◌≤◌, ℤ, pos, ◌+ℤ◌, ◌-ℤ◌, ◌*ℤ◌, ◌≤ℤ◌}
use Rattle.std.proofs.Common.{unsigned_abs, arith, Option, None, Some, IfSome}
use Rattle.std.proofs.lemmas.Int.{ints, clamps, by_lt_z}
use Rattle.carton_base.specs.Moments.{IsMoment}
use Rattle.carton_base.specs.Rounding.{IsBetween, unit}
use Rattle.carton_base.specs.declared.numbers.Bounds.{Bounds}
use Rattle.carton_base.specs.declared.limits.TheConstants.{MOST_JOINTS}
use Rattle.carton_base.specs.declared.motion.Motion.{Motion}
use Rattle.carton_base.specs.declared.motion.State.{State}
use Rattle.carton_base.proofs.Polynomials.{laid_out, sums, nonneg_product}
use Rattle.carton_base.proofs.Products.{mul_sub_right}
use Rattle.carton_model.specs.HalfTurns.{joint_fold, moving}
use Rattle.carton_model.specs.Moves.{stop_of}
use Rattle.carton_model.specs.Turning.{angle_of}
use Rattle.carton_halfturn.specs.declared.spans.FoldSpan.{FoldSpan}
use Rattle.carton_halfturn.specs.Joints.{IsFiner}
use Rattle.carton_halfturn.specs.Spans.{fold_num, fold_den}
use Rattle.carton_place.specs.declared.swings.Ramp.{Ramp}
use Rattle.carton_place.specs.declared.swings.Swing.{Swing}
use Rattle.carton_place.specs.Held.{HoldsOnRamp, HoldsSwing}
use Rattle.carton_place.specs.Swings.{FollowsMove}
use Rattle.carton_place.proofs.Ramps.{coarser}
use Rattle.carton_reach.specs.Ranges.{HoldsEach, IsMotionBetween, IsSpan, IsSpanBetween, LiesBetween}

-- a level ramp has each number within its bounds
pub on_level : (r : Ramp) (b : Bounds) (n d : ℕ) (x : ℤ) (v : ℕ) → 0 < v → r.start ≡ b → r.slope.lo ≡ pos 0
    → r.slope.hi ≡ pos 0 → r.all ≡ b → IsBetween b.lo b.hi x v → HoldsOnRamp r n d x v
on_level r b n d x v p s lo hi all h = record {
  line = record {
    p = x;
    q = pos 0;
    u = v;
    some = p;
    begins = subst (λ (c : Bounds). IsBetween c.lo c.hi x v) (sym s) h;
    rate = record {
      from = subst (λ z. (z *ℤ pos v) ≤ℤ (pos 0 *ℤ unit)) (sym lo) (omega (arith, ints));
      upto = subst (λ z. (pos 0 *ℤ unit) ≤ℤ (z *ℤ pos v)) (sym hi) (omega (arith, ints));
    };
  };
  within = subst (λ (c : Bounds). IsBetween c.lo c.hi x v) (sym all) h;
  reached = level_reach x v n d;
}
  where
    level_reach : (x : ℤ) (v n d : ℕ) → x *ℤ pos (v * d) ≡ (x *ℤ pos d +ℤ pos 0 *ℤ pos n) *ℤ pos v
    level_reach x v n d = simp laid_out (omega (arith, sums))

-- what moves between two numbers stays between them
moving_between : (low high s t : ℤ) (n d : ℕ) → n ≤ d → low ≤ℤ s → s ≤ℤ high → low ≤ℤ t → t ≤ℤ high
    → ((low *ℤ pos d) ≤ℤ moving s t n d) × (moving s t n d ≤ℤ (high *ℤ pos d))
moving_between low high s t n d h a b a' b' =
    let k : pos 0 ≤ℤ (pos d -ℤ pos n) = omega (arith, ints, h) in
    let m : pos 0 ≤ℤ pos n = omega (arith, ints) in
    let p = simp laid_out at (nonneg_product (s -ℤ low) (pos d -ℤ pos n) (omega (arith, ints, a)) k) in
    let q = simp laid_out at (nonneg_product (t -ℤ low) (pos n) (omega (arith, ints, a')) m) in
    let r = simp laid_out at (nonneg_product (high -ℤ s) (pos d -ℤ pos n) (omega (arith, ints, b)) k) in
    let u = simp laid_out at (nonneg_product (high -ℤ t) (pos n) (omega (arith, ints, b')) m) in
    (simp laid_out (omega (arith, sums, p, q)), simp laid_out (omega (arith, sums, r, u)))

-- at some moment m / e the span has the fold v / (grid * d), written in k times finer parts
record Passes (f : FoldSpan) (v : ℤ) (grid d : ℕ) : Type 0 where
  m : ℕ
  e : ℕ
  k : ℕ
  some : 0 < k
  moment : IsMoment m e
  fine : IsFiner k (record { num = v; den = grid * d }) (fold_num f m e) (fold_den f e)

rising : (a b v d k m : ℤ) → k ≡ b -ℤ a → m ≡ v -ℤ a *ℤ d → a *ℤ (k *ℤ d) +ℤ (b -ℤ a) *ℤ m ≡ v *ℤ k
rising a b v d k m hk hm = rw (hk, hm) (simp laid_out (omega (arith, sums)))

falling : (a b v d k m : ℤ) → k ≡ a -ℤ b → m ≡ a *ℤ d -ℤ v → a *ℤ (k *ℤ d) +ℤ (b -ℤ a) *ℤ m ≡ v *ℤ k
falling a b v d k m hk hm = rw (hk, hm) (simp laid_out (omega (arith, sums)))

-- the fold of a span, by its ends
ends_at : (f : FoldSpan) (a b : ℤ) (grid m e : ℕ) → IsSpan f a b grid
    → fold_num f m e ≡ a *ℤ pos e +ℤ (b -ℤ a) *ℤ pos m
ends_at f a b grid m e h = λ i. h.from i *ℤ pos e +ℤ (h.to i -ℤ h.from i) *ℤ pos m

den_at : (f : FoldSpan) (a b : ℤ) (grid d k : ℕ) → IsSpan f a b grid → fold_den f (k * d) ≡ grid * d * k
den_at f a b grid d k h = ap (λ z. unsigned_abs z * (k * d)) h.den ∙ regrouped grid d k
  where
    regrouped : (g d k : ℕ) → g * (k * d) ≡ g * d * k
    regrouped g d k = omega arith

-- where k * d times as many parts are passed from the first end on
passes_by : (f : FoldSpan) (a b v : ℤ) (grid d k m : ℕ) → IsSpan f a b grid → 0 < k → 0 < d → m ≤ k * d
    → a *ℤ (pos k *ℤ pos d) +ℤ (b -ℤ a) *ℤ pos m ≡ v *ℤ pos k → Passes f v grid d
passes_by f a b v grid d k m h k0 d0 few e = record {
  m = m;
  e = k * d;
  k = k;
  some = k0;
  moment = record { within = few; some = grind arith };
  fine = record { num = ends_at f a b grid m (k * d) h ∙ e; den = den_at f a b grid d k h };
}

passes : (f : FoldSpan) (a b s t : ℤ) (grid n d : ℕ) → IsSpan f a b grid → IsMoment n d → LiesBetween a b s
    → LiesBetween a b t → Passes f (moving s t n d) grid d
passes f a b s t grid n d h i ls lt =
    let v = moving s t n d in
    by_lt_z a b
    (λ less.
    let w = moving_between a b s t n d i.within (omega (arith, ints, clamps, ls.from, less))
    (omega (arith, ints, clamps, ls.upto, less)) (omega (arith, ints, clamps, lt.from, less))
    (omega (arith, ints, clamps, lt.upto, less)) in
    let k : pos (unsigned_abs (b -ℤ a)) ≡ b -ℤ a = omega (arith, ints, less) in
    let m : pos (unsigned_abs (v -ℤ a *ℤ pos d)) ≡ v -ℤ a *ℤ pos d = omega (arith, ints, w.0) in
    let whole : pos (unsigned_abs (b -ℤ a)) *ℤ pos d ≡ b *ℤ pos d -ℤ a *ℤ pos d = ap (λ z. z *ℤ pos d) k
    ∙ mul_sub_right b a (pos d) in
    passes_by f a b v grid d (unsigned_abs (b -ℤ a)) (unsigned_abs (v -ℤ a *ℤ pos d)) h
    (omega (arith, ints, less)) i.some (omega (arith, ints, whole, m, w.1))
    (rising a b v (pos d) _ _ k m))
    (λ more. by_lt_z b a
    (λ less.
    let w = moving_between b a s t n d i.within (omega (arith, ints, clamps, ls.from, less))
    (omega (arith, ints, clamps, ls.upto, less)) (omega (arith, ints, clamps, lt.from, less))
    (omega (arith, ints, clamps, lt.upto, less)) in
    let k : pos (unsigned_abs (a -ℤ b)) ≡ a -ℤ b = omega (arith, ints, less) in
    let m : pos (unsigned_abs (a *ℤ pos d -ℤ v)) ≡ a *ℤ pos d -ℤ v = omega (arith, ints, w.1) in
    let whole : pos (unsigned_abs (a -ℤ b)) *ℤ pos d ≡ a *ℤ pos d -ℤ b *ℤ pos d = ap (λ z. z *ℤ pos d) k
    ∙ mul_sub_right a b (pos d) in
    passes_by f a b v grid d (unsigned_abs (a -ℤ b)) (unsigned_abs (a *ℤ pos d -ℤ v)) h
    (omega (arith, ints, less)) i.some (omega (arith, ints, whole, m, w.0))
    (falling a b v (pos d) _ _ k m))
    (λ same.
    let w = moving_between a a s t n d i.within (omega (arith, ints, clamps, ls.from, more, same))
    (omega (arith, ints, clamps, ls.upto, more, same)) (omega (arith, ints, clamps, lt.from, more, same))
    (omega (arith, ints, clamps, lt.upto, more, same)) in
    let here : v ≡ a *ℤ pos d = omega (arith, ints, w.0, w.1) in
    passes_by f a b v grid d 1 0 h (omega arith) i.some (omega arith) (omega (arith, ints, here))))

-- a swing that has each fold of the span follows every move between the two states
pub follows : (low high : State) (place : Option ℕ) (f : FoldSpan) (s : Swing) (motion : Motion)
    → IfSome place (λ k. k < MOST_JOINTS) → IsSpanBetween low high place f → HoldsEach s f
    → IsMotionBetween low high motion
    → FollowsMove s motion place 0 0
follows low high None f s motion l h each m p n d i part =
    coarser s p d (record { num = pos 0; den = 1 }) (fold_num f 0 1) (fold_den f 1) 1 (omega arith)
    record {
      num = ends_at f (pos 0) (pos 0) 1 0 1 h ∙ omega (arith, ints);
      den = den_at f (pos 0) (pos 0) 1 1 1 h;
    }
    (each 0 1 p d record { within = omega arith; some = omega arith } i)
follows low high (Some k) f s motion l h each m p n d i part =
    let e : n ≡ p = omega (arith, part) in
    let at = passes f (stop_of low k) (stop_of high k) (stop_of motion.from k) (stop_of motion.to k) low.grid
    n d h (record { within = omega (arith, i.within, e); some = i.some }) (m.from k l) (m.to k l) in
    subst (λ g. HoldsSwing s p d (angle_of (joint_fold (stop_of motion.from k) (stop_of motion.to k) g n d)))
    (sym m.grid)
    (coarser s p d (joint_fold (stop_of motion.from k) (stop_of motion.to k) low.grid n d)
    (fold_num f at.m at.e) (fold_den f at.e) at.k at.some at.fine (each at.m at.e p d at.moment i))
