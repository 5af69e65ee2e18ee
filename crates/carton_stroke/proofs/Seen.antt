-- What the reach of a panel and the extents of a body tell of the directions that part them.
use Rattle.std.proofs.Common.{◌≡◌, sym, subst, inl, inr, ℕ, ◌^◌, ◌<◌, ◌≤◌, List, [], ◌∷◌, length, get_or, ℤ}
use Rattle.std.proofs.Common.{pos, ◌+ℤ◌, ◌-ℤ◌, ◌*ℤ◌, neg_ℤ, ◌≤ℤ◌, ◌<ℤ◌, arith, Option, None, Some}
use Rattle.std.specs.Prelude.{IfSome}
use Rattle.std.proofs.lemmas.Bool.{cases_lt}
use Rattle.std.proofs.lemmas.Int.{ints, by_lt_z}
use Rattle.std.proofs.lemmas.List.{get_or_past}
use Rattle.carton_base.specs.Moments.{IsMoment, InPiece}
use Rattle.carton_base.specs.declared.motion.Motion.{Motion}
use Rattle.carton_model.specs.Moves.{fold_at}
use Rattle.carton_model.specs.Parting.{Position}
use Rattle.carton_enclose.specs.Points.{dot}
use Rattle.carton_tree.specs.Trees.{Tree}
use Rattle.carton_reach.specs.declared.reach.Reach.{Reach}
use Rattle.carton_reach.specs.declared.reach.Reaches.{Reaches}
use Rattle.carton_reach.specs.Axes.{axis_at}
use Rattle.carton_reach.specs.Beyond.{Spots, IsBeyond}
use Rattle.carton_reach.specs.Reaches.{Within, IsReach, half}
use Rattle.carton_reach.specs.Spots.{corners_in, shape_at, spots_in}
use Rattle.carton_reach.proofs.Directions.{listed, axis_is}
use Rattle.carton_reach.proofs.Numbers.{far_apart, not_far, far_back, not_far_back, not_less, turned}
use Rattle.carton_reach.proofs.Parted.{close_at_last}
use Rattle.carton_reach.proofs.Positions.{spots_positive}
use Rattle.carton_panels.specs.Shapes.{IsShape}
use Rattle.carton_part.specs.Looks.{IsReachIn}
use Rattle.carton_part.specs.Parted.{AtEachMoment}
use Rattle.carton_part.specs.Points.{IsPointOf}
use Rattle.carton_part.proofs.Corners.{of_corners, corner_is}
use Rattle.carton_part.proofs.Means.{first_mean}
use Rattle.carton_part.proofs.Walks.{first_in, power_some}
use Rattle.carton_bodies.specs.declared.extent.Extent.{Extent}
use Rattle.carton_bodies.specs.declared.moving.Moving.{Moving}
use Rattle.carton_bodies.specs.Extents.{holds, IsExtent, AreExtents}
use Rattle.carton_stroke.specs.Nearness.{IsApart, IsNear, SomeApart, AllNear}
use Rattle.carton_stroke.specs.Steps.{IsKnownApart, IsPartedAt}

half_some : pos 0 <ℤ half
half_some = omega (arith, ints)

no_room : (high low : ℤ) → high <ℤ low → (high +ℤ pos 0 *ℤ half) <ℤ low
no_room high low h = omega (arith, ints, h)

-- where the corners of the panel stand in the world
abbrev corners : Tree → Motion → ℕ → Spots
corners t motion panel = spots_in t motion panel t.root

-- the body lies beyond all corners of the panel
beyond : (t : Tree) (motion : Motion) (panel index depth : ℕ) (b : Moving) (v : List ℤ) (r : Reach)
    (e : Extent) → IsReach (corners t motion panel) 0 (corners_in t panel) index depth v r
    → IsExtent b index depth v e → r.greatest_high <ℤ e.least_low
    → Within index depth (λ n d. (k : ℕ) (q : Position) → k < corners_in t panel → holds b n d q →
    (pos 2 *ℤ (dot v (corners t motion panel k n d).x (corners t motion panel k n d).y (corners t motion panel
    k n d).z *ℤ q.w) +ℤ pos 0 *ℤ ((corners t motion panel k n d).w *ℤ q.w))
    <ℤ (pos 2 *ℤ (dot v q.x q.y q.z *ℤ (corners t motion panel k n d).w)))
beyond t motion panel index depth b v r e hr he apart n d m c k q lt i =
    far_apart _ _ r.greatest_high e.least_low (pos 0) (corners t motion panel k n d).w q.w half
    (spots_positive t motion panel t.root k n d m) i.positive half_some
    (hr.below k (omega arith) lt n d m c) (he.above n d m c q i) (no_room _ _ apart)

-- all corners of the panel lie beyond the body
before : (t : Tree) (motion : Motion) (panel index depth : ℕ) (b : Moving) (v : List ℤ) (r : Reach)
    (e : Extent) → IsReach (corners t motion panel) 0 (corners_in t panel) index depth v r
    → IsExtent b index depth v e → e.greatest_high <ℤ r.least_low
    → Within index depth (λ n d. (k : ℕ) (q : Position) → k < corners_in t panel → holds b n d q →
    (pos 2 *ℤ (dot v q.x q.y q.z *ℤ (corners t motion panel k n d).w)
    +ℤ pos 0 *ℤ (q.w *ℤ (corners t motion panel k n d).w))
    <ℤ (pos 2
    *ℤ (dot v (corners t motion panel k n d).x (corners t motion panel k n d).y (corners t motion panel k
    n d).z *ℤ q.w)))
before t motion panel index depth b v r e hr he apart n d m c k q lt i =
    far_apart _ _ e.greatest_high r.least_low (pos 0) q.w (corners t motion panel k n d).w half i.positive
    (spots_positive t motion panel t.root k n d m) half_some
    (he.below n d m c q i) (hr.above k (omega arith) lt n d m c) (no_room _ _ apart)

-- the same along the direction turned round
before_back : (halves u v s : ℤ) (p q : Position)
    → (pos 2 *ℤ ((u *ℤ q.x +ℤ v *ℤ q.y +ℤ s *ℤ q.z) *ℤ p.w) +ℤ halves *ℤ (q.w *ℤ p.w))
    <ℤ (pos 2 *ℤ ((u *ℤ p.x +ℤ v *ℤ p.y +ℤ s *ℤ p.z) *ℤ q.w))
    → IsBeyond halves (neg_ℤ u) (neg_ℤ v) (neg_ℤ s) p q
before_back halves u v s p q h =
    let f = turned u v s p.x p.y p.z in
    let g = turned u v s q.x q.y q.z in
    let l = far_back _ _ halves p.w q.w h in
    subst (λ z. (pos 2 *ℤ (z *ℤ q.w) +ℤ halves *ℤ (p.w *ℤ q.w))
    <ℤ (pos 2 *ℤ ((neg_ℤ u *ℤ q.x +ℤ neg_ℤ v *ℤ q.y +ℤ neg_ℤ s *ℤ q.z) *ℤ p.w))) (sym f)
    (subst (λ z. (pos 2 *ℤ (neg_ℤ (u *ℤ p.x +ℤ v *ℤ p.y +ℤ s *ℤ p.z) *ℤ q.w) +ℤ halves *ℤ (p.w *ℤ q.w))
    <ℤ (pos 2 *ℤ (z *ℤ p.w))) (sym g) l)

-- what lies beyond all corners lies beyond all points
from_corners : (t : Tree) (motion : Motion) (panel n d : ℕ) (halves u v s : ℤ) (q : Position)
    → IsShape (shape_at t panel) → IsMoment n d
    → ((k : ℕ) → k < corners_in t panel → IsBeyond halves u v s (corners t motion panel k n d) q)
    → (p : Position) → IsPointOf t (fold_at motion n d) panel t.root p → IsBeyond halves u v s p q
from_corners t motion panel n d halves u v s q shape m h p hp =
    let x = of_corners t motion panel t.root n d p shape m hp in
    first_mean halves u v s p _ _ _ q x.positive x.mean (h x.i x.at_i) (h x.j x.at_j) (h x.k x.at_k)

-- an axis along which they are apart parts them
pub apart_from : (t : Tree) (motion : Motion) (panel index depth : ℕ) (b : Moving) (r : Reaches)
    (es : List Extent) → IsReachIn t motion panel t.root index depth r → AreExtents b index depth es
    → SomeApart r.axes es → Within index depth (IsPartedAt t motion panel b (pos 0))
apart_from t motion panel index depth b r es hr he some n d m c =
    let a = some.0 in
    let x = axis_is a some.3 in
    let v = x.u ∷ x.v ∷ x.t ∷ [] in
    let reach = subst (λ v. IsReach (corners t motion panel) 0 (corners_in t panel) index depth v
    (get_or r.axes a some.1)) x.same (hr.reaches a some.1 some.3) in
    let extent = subst (λ v. IsExtent b index depth v (get_or es a some.2)) x.same (he a some.2 some.3) in
    elim some.4 [
      | inl far ↦ (
        x.u,
        x.v,
        x.t,
        x.forward,
        λ p q hp hq. from_corners t motion panel n d (pos 0) x.u x.v x.t q
            hr.shape m (λ k lt. beyond t motion panel index depth b v _ _ reach extent far n d m c k q lt hq)
            p hp,
      )
      | inr far ↦ (
        neg_ℤ x.u,
        neg_ℤ x.v,
        neg_ℤ x.t,
        x.back,
        λ p q hp hq. from_corners t motion panel n d (pos 0) (neg_ℤ x.u) (neg_ℤ x.v) (neg_ℤ x.t) q hr.shape m
            (λ k lt. before_back (pos 0) x.u x.v x.t (corners t motion panel k n d) q
            (before t motion panel index depth b v _ _ reach extent far n d m c k q lt hq)) p hp,
      )
    ]

abbrev impossible : Reach
impossible = record {
  least_low = pos 1;
  least_high = pos 0;
  greatest_low = pos 0;
  greatest_high = pos 0;
  small_least_low = omega arith;
  small_least_high = omega arith;
  small_greatest_low = omega arith;
  small_greatest_high = omega arith;
}

no_extent : Extent
no_extent = record { least_low = pos 0; least_high = pos 0; greatest_low = pos 0; greatest_high = pos 0 }

-- some corner and some place of the body of which the second never lies beyond the first by more than so many
-- halves
not_beyond : (t : Tree) (motion : Motion) (panel index depth n d : ℕ) (b : Moving) (u v s halves : ℤ)
    (r : Reach) (e : Extent) → IsMoment n d → InPiece index depth n d
    → IsReach (corners t motion panel) 0 (corners_in t panel) index depth (u ∷ v ∷ s ∷ []) r
    → IsExtent b index depth (u ∷ v ∷ s ∷ []) e → e.least_high ≤ℤ (r.greatest_low +ℤ halves *ℤ half)
    → (k : ℕ) × (q : Position) × (k < corners_in t panel) × holds b n d q
    × ¬ (IsBeyond halves u v s (corners t motion panel k n d) q)
not_beyond t motion panel index depth n d b u v s halves r e m c hr he near =
    let x = hr.some_above in
    let y = he.some_below n d m c in
    let p = corners t motion panel x.0 n d in (
      x.0,
      y.0,
      x.2,
      y.1,
      λ h.
          not_less _ _ (not_far _ _ e.least_high r.greatest_low halves p.w y.0.w half
          (spots_positive t motion panel t.root x.0 n d m) y.1.positive half_some (x.3 n d m c) y.2 near) h,
    )

-- the same along a direction whose negation is looked at
round : (x y halves v w a b : ℤ) → a ≡ neg_ℤ x → b ≡ neg_ℤ y → (pos 2 *ℤ (a *ℤ w))
    ≤ℤ (pos 2 *ℤ (b *ℤ v) +ℤ halves *ℤ (w *ℤ v)) → (pos 2 *ℤ (y *ℤ v))
    ≤ℤ (pos 2 *ℤ (x *ℤ w) +ℤ halves *ℤ (v *ℤ w))
round x y halves v w a b f g h =
    not_far_back x y halves v w
    (subst (λ z. (pos 2 *ℤ (neg_ℤ x *ℤ w)) ≤ℤ (pos 2 *ℤ (z *ℤ v) +ℤ halves *ℤ (w *ℤ v))) g
    (subst (λ z. (pos 2 *ℤ (z *ℤ w)) ≤ℤ (pos 2 *ℤ (b *ℤ v) +ℤ halves *ℤ (w *ℤ v))) f h))

room_moved : (high room low : ℤ) → (high -ℤ room) ≤ℤ low → high ≤ℤ (low +ℤ room)
room_moved high room low h = omega (arith, ints, h)

not_before : (t : Tree) (motion : Motion) (panel index depth n d : ℕ) (b : Moving) (u v s halves : ℤ)
    (r : Reach) (e : Extent) → IsMoment n d → InPiece index depth n d
    → IsReach (corners t motion panel) 0 (corners_in t panel) index depth (neg_ℤ u ∷ neg_ℤ v ∷ neg_ℤ s ∷ []) r
    → IsExtent b index depth (neg_ℤ u ∷ neg_ℤ v ∷ neg_ℤ s ∷ []) e → (r.least_high -ℤ halves *ℤ half)
    ≤ℤ e.greatest_low
    → (k : ℕ) × (q : Position) × (k < corners_in t panel) × holds b n d q
    × ¬ (IsBeyond halves u v s (corners t motion panel k n d) q)
not_before t motion panel index depth n d b u v s halves r e m c hr he near =
    let x = hr.some_below in
    let y = he.some_above n d m c in
    let p = corners t motion panel x.0 n d in
    let q = y.0 in
    let le = not_far _ _ r.least_high e.greatest_low halves q.w p.w half y.1.positive
    (spots_positive t motion panel t.root x.0 n d m) half_some y.2 (x.3 n d m c)
    (room_moved _ _ _ near) in (
      x.0,
      q,
      x.2,
      y.1,
      λ h.
          not_less _ _ (round _ _ halves p.w q.w _ _ (turned u v s p.x p.y p.z) (turned u v s q.x q.y q.z) le)
          h,
    )

-- where they are near along each axis, no direction parts them
pub not_apart : (t : Tree) (motion : Motion) (panel index depth : ℕ) (b : Moving) (r : Reaches)
    (es : List Extent) (halves : ℤ) → IsReachIn t motion panel t.root index depth r
    → AreExtents b index depth es → AllNear (halves *ℤ half) r.axes es
    → Within index depth (λ n d. ¬ (IsPartedAt t motion panel b halves n d))
not_apart t motion panel index depth b r es halves hr he near n d m c h =
    let a = listed h.0 h.1 h.2 h.3 in
    let both = near a.0 impossible no_extent a.1 in
    let reach = hr.reaches a.0 impossible a.1 in
    let extent = he a.0 no_extent a.1 in
    let point = λ (k : ℕ) (lt : k < corners_in t panel). corner_is t motion panel t.root n d k hr.shape lt in
    elim a.2 [
      | inl e ↦
          let x = not_beyond t motion panel index depth n d b h.0 h.1 h.2 halves _ _ m c
          (subst (λ v. IsReach (corners t motion panel) 0 (corners_in t panel) index depth v
          (get_or r.axes a.0 impossible)) e reach)
          (subst (λ v. IsExtent b index depth v (get_or es a.0 no_extent)) e extent) both.0 in
          x.4 (h.4 _ _ (point x.0 x.2) x.3)
      | inr e ↦
          let x = not_before t motion panel index depth n d b h.0 h.1 h.2 halves _ _ m c
          (subst (λ v. IsReach (corners t motion panel) 0 (corners_in t panel) index depth v
          (get_or r.axes a.0 impossible)) e reach)
          (subst (λ v. IsExtent b index depth v (get_or es a.0 no_extent)) e extent) both.1 in
          x.4 (h.4 _ _ (point x.0 x.2) x.3)
    ]

close : (r : Reach) (e : Extent) (room : ℤ) → half ≤ℤ room → r.least_high ≤ℤ (r.least_low +ℤ pos (2 ^ 38))
    → r.greatest_high ≤ℤ (r.greatest_low +ℤ pos (2 ^ 38))
    → e.least_high ≤ℤ (e.least_low +ℤ pos (2 ^ 38)) → e.greatest_high ≤ℤ (e.greatest_low +ℤ pos (2 ^ 38))
    → ¬ (IsApart r e) → IsNear room r e
close r e room wide rl rg el eg none = (
  by_lt_z r.greatest_high e.least_low (λ l. absurd (none (inl l)))
      (λ l. omega (arith, ints, wide, rg, el, l)),
  by_lt_z e.greatest_high r.least_low (λ l. absurd (none (inr l)))
      (λ l. omega (arith, ints, wide, rl, eg, l)),
)

-- a piece that tells neither has halves
pub has_halves : (t : Tree) (motion : Motion) (panel index depth : ℕ) (b : Moving) (r : Reaches)
    (es : List Extent) (room : ℤ) → IsReachIn t motion panel t.root index depth r
    → AreExtents b index depth es → depth ≤ 36 → half ≤ℤ room
    → ¬ (SomeApart r.axes es) → ¬ (AllNear room r.axes es) → depth < 36
has_halves t motion panel index depth b r es room hr he shallow wide apart near = elim (cases_lt depth 36) [
  | inl l ↦ l
  | inr le ↦
      let k : depth ≡ 36 = omega (arith, le, shallow) in
      absurd (near (λ a d f lt.
      let x = close_at_last k (hr.reaches a d lt) in
      let y = he a f lt in
      close (get_or r.axes a d) (get_or es a f) room wide x.0 x.1 (y.close_lows k) (y.close_highs k)
      (λ h. apart (a, d, f, lt, h))))
]

-- a reach is told of each axis: no bounds of all corners go from 1 to 0
pub all_axes : (t : Tree) (motion : Motion) (panel index depth : ℕ) (r : Reaches) → index < 2 ^ depth
    → IsReachIn t motion panel t.root index depth r → 13 ≤ length r.axes
all_axes t motion panel index depth r lt hr = elim (cases_lt 12 (length r.axes)) [
  | inl l ↦ omega (arith, l)
  | inr le ↦
      let x = subst (IsReach (corners t motion panel) 0 (corners_in t panel) index depth (axis_at 12))
      (get_or_past r.axes 12 impossible le) (hr.reaches 12 impossible (omega arith)) in
      let k = x.some_below in
      let n = index in
      let d = 2 ^ depth in
      let m : IsMoment n d = record { within = omega (arith, lt); some = power_some depth } in
      let a = x.above k.0 k.1 k.2 n d m (first_in index depth) in
      let b = x.below k.0 k.1 k.2 n d m (first_in index depth) in
      let w = spots_positive t motion panel t.root k.0 n d m in
      absurd (omega (arith, ints, a, b, w))
]

pub known_axes : (t : Tree) (motion : Motion) (panel : ℕ) (o : Option Reaches)
    → IfSome o (IsReachIn t motion panel t.root 0 0) → IfSome o (λ r. 13 ≤ length r.axes)
known_axes t motion panel None h = tt
known_axes t motion panel (Some r) h = all_axes t motion panel 0 0 r (omega arith) h

-- a reach over the whole move from which the body's extents are apart
pub known_kept : (t : Tree) (motion : Motion) (panel : ℕ) (b : Moving) (o : Option Reaches) (es : List Extent)
    → IfSome o (IsReachIn t motion panel t.root 0 0) → AreExtents b 0 0 es → IsKnownApart o es
    → AtEachMoment (IsPartedAt t motion panel b (pos 0))
known_kept t motion panel b None es h he apart = absurd apart
known_kept t motion panel b (Some r) es h he apart =
    λ n d m. apart_from t motion panel 0 0 b r es h he apart n d m
    (record { from = omega arith; upto = omega (arith, m.within) })
