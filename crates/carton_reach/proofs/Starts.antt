-- The starts of a panel's corners, and where turns take them.
use Rattle.std.proofs.Common.{◌≡◌, ℕ, zero, suc, ◌-◌, ◌*◌, ◌<◌, ◌≤◌, ◌^◌, List, [], ◌∷◌, length, get_or, map}
use Rattle.std.proofs.Common.{take, Some, slice_get, pos, unsigned_abs, arith, refl, sym, ap, subst}
use Rattle.std.specs.Prelude.{All}
use Rattle.std.proofs.lemmas.Int.{ints}
use Rattle.std.proofs.lemmas.List.{take_all, get_or-take, length-take-le}
use Rattle.std.proofs.lemmas.Option.{get_or_from_slice_get}
use Rattle.carton_base.specs.declared.motion.Motion.{Motion}
use Rattle.carton_base.specs.declared.motion.Turn.{Turn}
use Rattle.carton_base.specs.declared.numbers.Triple.{Triple}
use Rattle.carton_model.specs.Moves.{fold_at}
use Rattle.carton_model.specs.Points.{IsNearPoint}
use Rattle.carton_model.specs.Turning.{angle_of, angles_of, fold_of, laid}
use Rattle.carton_panels.specs.Shapes.{Shape, IsShape}
use Rattle.carton_place.specs.declared.swings.Swing.{Swing}
use Rattle.carton_place.specs.Held.{HoldsSwing}
use Rattle.carton_place.specs.Swings.{FollowsMove, IsFlatWithin}
use Rattle.carton_place.proofs.Lists.{beside}
use Rattle.carton_place.proofs.Starts.{rounded_between, rounded_size, rounded_spread}
use Rattle.carton_tree.specs.Cartons.{IsStart, AreStarts}
use Rattle.carton_tree.specs.declared.start.Start.{Start}
use Rattle.carton_reach.specs.Reaches.{Within}
use Rattle.carton_reach.specs.Spots.{no_shape, origin, spots_after}
use Rattle.carton_reach.specs.Starts.{IsNearStart, IsTurnedFrom}
use Rattle.carton_reach.proofs.Reached.{own_moment}

-- corner by corner
pub starts_long : (ts : List Triple) (ss : List Start) → AreStarts ts ss → length ss ≡ length ts
starts_long [] [] h = refl
starts_long [] (s ∷ ss) h = absurd h
starts_long (t ∷ ts) [] h = absurd h
starts_long (t ∷ ts) (s ∷ ss) h = omega (arith, starts_long ts ss h.1)

start_at : (ts : List Triple) (ss : List Start) (k : ℕ) (t : Triple) (s : Start) → AreStarts ts ss
    → k < length ss → IsStart (get_or ts k t) (get_or ss k s)
start_at [] [] k t s h l = absurd (omega (arith, l))
start_at [] (y ∷ ys) k t s h l = absurd h
start_at (x ∷ xs) [] k t s h l = absurd h
start_at (x ∷ xs) (y ∷ ys) zero t s h l = h.0
start_at (x ∷ xs) (y ∷ ys) (suc k) t s h l = start_at xs ys k t s h.1 (omega (arith, l))

near_start : (t : Triple) (s : Start) → IsNearPoint t → IsStart t s → IsNearStart s
near_start t s n h =
    let p : 0 < unsigned_abs t.w = omega (arith, ints, t.positive) in
    record {
      x = rounded_size t.x (unsigned_abs t.w) s.x.lo s.x.hi p n.x h.x;
      y = rounded_size t.y (unsigned_abs t.w) s.y.lo s.y.hi p n.y h.y;
      close_x = rounded_spread t.x (unsigned_abs t.w) s.x.lo s.x.hi s.x.ordered h.x;
      close_y = rounded_spread t.y (unsigned_abs t.w) s.y.lo s.y.hi s.y.ordered h.y;
    }

flat_start : (t : Triple) (s : Start) → IsStart t s → IsFlatWithin s.x s.y (laid t)
flat_start t s h = record {
  positive = t.positive;
  level = refl;
  along_x = rounded_between t.x (unsigned_abs t.w) s.x.lo s.x.hi h.x;
  along_y = rounded_between t.y (unsigned_abs t.w) s.y.lo s.y.hi h.y;
}

-- so many starts, one for each corner
pub record AreAll (count : ℕ) (corners : List Triple) (taken : List Start) : Type 0 where
  pub many : count ≡ length taken
  pub each : AreStarts corners taken
  pub some : 0 < length taken
  pub near : All IsNearStart taken

pub starts_taken : (panels : List Shape) (p : ℕ) (shape : Shape) (corners : List Triple) (starts : List Start)
    → Some shape ≡ slice_get panels p → IsShape shape → corners ≡ shape.shrunk
    → AreStarts (get_or panels p no_shape).shrunk starts
    → AreAll (length corners) (get_or panels p no_shape).shrunk (take (length corners) starts)
starts_taken panels p shape corners starts there is same each =
    let here : get_or panels p no_shape ≡ shape = get_or_from_slice_get panels p shape no_shape (sym there) in
    let own : AreStarts shape.shrunk starts = subst (λ (s : Shape). AreStarts s.shrunk starts) here each in
    let long : length starts ≡ length shape.shrunk = starts_long shape.shrunk starts own in
    let whole : take (length corners) starts ≡ starts =
    take_all (length corners) starts (omega (arith, long, ap length same)) in
    record {
      many = omega (arith, long, ap length same, ap length whole);
      each = subst (AreStarts (get_or panels p no_shape).shrunk) (sym whole) each;
      some = subst (λ (ss : List Start). 0 < length ss) (sym whole) (omega (arith, long, is.some_shrunk));
      near = subst (All IsNearStart) (sym whole) (λ k s l.
          let t : Triple = record { x = pos 0; y = pos 0; w = pos 1; positive = omega (arith, ints) } in
          near_start (get_or shape.shrunk k t) (get_or starts k s)
          (is.shrunk_near k t (omega (arith, l, long))) (start_at shape.shrunk starts k t s own l));
    }

flat_at : (ts : List Triple) (k : ℕ) (t : Triple) → k < length ts → get_or (map laid ts) k origin
    ≡ laid (get_or ts k t)
flat_at [] k t l = absurd (omega (arith, l))
flat_at (x ∷ xs) zero t l = refl
flat_at (x ∷ xs) (suc k) t l = flat_at xs k t (omega (arith, l))

-- the corners stand where the turns take the starts
pub turned : (motion : Motion) (turns : List Turn) (swings : List Swing) (corners : List Triple)
    (starts : List Start) (index depth : ℕ) → AreStarts corners starts → length turns ≤ length swings
    → ((k : ℕ) (s : Swing) (t : Turn) → k < length turns
    → FollowsMove (get_or swings k s) motion (get_or turns k t).place index depth)
    → (k : ℕ) (s : Start) → k < length starts
    → Within index depth (λ n d. IsTurnedFrom turns (take (length turns) swings) (get_or starts k s)
    (n * 2 ^ depth - index * d) d (spots_after motion turns corners k n d))
turned motion turns swings corners starts index depth h enough over k s l n d m i =
    let count = length turns in
    let c : Triple = record { x = pos 0; y = pos 0; w = pos 1; positive = omega (arith, ints) } in
    let part = n * 2 ^ depth - index * d in
    let angle = λ (t : Turn). angle_of (fold_of (fold_at motion n d) t.place) in
    let flat = flat_at corners k c (omega (arith, l, starts_long corners starts h)) in
    record {
      angles = angles_of (fold_at motion n d) turns;
      flat = get_or (map laid corners) k origin;
      have = beside part d angle (take count swings) turns (length-take-le count swings enough)
          (λ j r t b. subst (λ r. HoldsSwing r part d (angle (get_or turns j t)))
          (sym (get_or-take count swings j r b))
          (over j r t b part n d (own_moment index depth n d m i) (omega (arith, i.from))));
      start = subst (IsFlatWithin (get_or starts k s).x (get_or starts k s).y) (sym flat)
          (flat_start (get_or corners k c) (get_or starts k s) (start_at corners starts k c s h l));
      after = refl;
    }
