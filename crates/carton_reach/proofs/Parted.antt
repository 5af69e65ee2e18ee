-- What the reaches of the corners of two panels tell of the directions that part them.
use Rattle.std.proofs.Common.{◌≡◌, ℕ, ◌<◌, List, [], ◌∷◌, get_or, ℤ, pos, ◌+ℤ◌, ◌*ℤ◌, neg_ℤ, ◌≤ℤ◌, ◌<ℤ◌}
use Rattle.std.proofs.Common.{arith, sym, subst, inl, inr, ◌^◌}
use Rattle.std.proofs.lemmas.Int.{ints, by_lt_z}
use Rattle.carton_enclose.specs.Points.{dot}
use Rattle.carton_reach.specs.declared.reach.Reach.{Reach}
use Rattle.carton_reach.specs.Axes.{axis_at}
use Rattle.carton_reach.specs.Beyond.{Spots, ArePositive, AreCornersParted}
use Rattle.carton_reach.specs.Reaches.{Within, IsReach, AreReaches, IsApart, IsNear, SomeApart, AllNear}
use Rattle.carton_reach.specs.Reaches.{half, units_at}
use Rattle.carton_reach.proofs.Directions.{listed, axis_is}
use Rattle.carton_reach.proofs.Numbers.{far_apart, not_far, far_back, not_far_back, not_less, turned}

-- the reach along an axis, told of the axis's parts
reach_at : (spots : Spots) (past index depth : ℕ) (rs : List Reach) (a : ℕ) (d : Reach) (v : List ℤ) → a < 13
    → axis_at a ≡ v → AreReaches spots 0 past index depth rs
    → IsReach spots 0 past index depth v (get_or rs a d)
reach_at spots past index depth rs a d v l e h =
    subst (λ v. IsReach spots 0 past index depth v (get_or rs a d)) e (h a d l)

half_some : pos 0 <ℤ half
half_some = omega (arith, ints)

-- all second corners lie beyond all first ones, at each moment of the piece
beyond : (ps qs : Spots) (i j index depth : ℕ) (v : List ℤ) (p q : Reach) (halves : ℤ) → ArePositive ps
    → ArePositive qs
    → IsReach ps 0 i index depth v p → IsReach qs 0 j index depth v q → IsApart (halves *ℤ half) p q
    → (k l : ℕ) → k < i → l < j → Within index depth (λ n d.
    (pos 2 *ℤ (dot v (ps k n d).x (ps k n d).y (ps k n d).z *ℤ (qs l n d).w)
    +ℤ halves *ℤ ((ps k n d).w *ℤ (qs l n d).w))
    <ℤ (pos 2 *ℤ (dot v (qs l n d).x (qs l n d).y (qs l n d).z *ℤ (ps k n d).w)))
beyond ps qs i j index depth v p q halves wp wq hp hq apart k l hk hl n d m c =
    far_apart _ _ p.greatest_high q.least_low halves (ps k n d).w (qs l n d).w half (wp k n d m) (wq l n d m)
    half_some
    (hp.below k (omega arith) hk n d m c) (hq.above l (omega arith) hl n d m c) apart

-- some second corner doesn't lie beyond some first one, at each moment of the piece
not_beyond : (ps qs : Spots) (i j index depth : ℕ) (v : List ℤ) (p q : Reach) (halves : ℤ) → ArePositive ps
    → ArePositive qs
    → IsReach ps 0 i index depth v p → IsReach qs 0 j index depth v q → IsNear (halves *ℤ half) p q
    → (k : ℕ) × (l : ℕ) × (k < i) × (l < j) × Within index depth (λ n d.
    (pos 2 *ℤ (dot v (qs l n d).x (qs l n d).y (qs l n d).z *ℤ (ps k n d).w))
    ≤ℤ (pos 2 *ℤ (dot v (ps k n d).x (ps k n d).y (ps k n d).z *ℤ (qs l n d).w)
    +ℤ halves *ℤ ((ps k n d).w *ℤ (qs l n d).w)))
not_beyond ps qs i j index depth v p q halves wp wq hp hq near =
    let a = hp.some_above in
    let b = hq.some_below in (
      a.0,
      b.0,
      a.2,
      b.2,
      λ n d m c. not_far _ _ q.least_high p.greatest_low halves (ps a.0 n d).w
          (qs b.0 n d).w half (wp a.0 n d m) (wq b.0 n d m) half_some (a.3 n d m c) (b.3 n d m c) near,
    )

-- an axis along which the one panel's corners lie beyond the other's parts them
pub parted : (ps qs : Spots) (i j index depth : ℕ) (p q : List Reach) (halves : ℤ) → ArePositive ps
    → ArePositive qs
    → AreReaches ps 0 i index depth p → AreReaches qs 0 j index depth q → SomeApart (halves *ℤ half) p q
    → Within index depth (AreCornersParted halves ps i qs j)
parted ps qs i j index depth p q halves wp wq hp hq some n d m c =
    let a = some.0 in
    let e = some.1 in
    let x = axis_is a some.2 in
    let v = x.u ∷ x.v ∷ x.t ∷ [] in
    let rp = reach_at ps i index depth p a e v some.2 x.same hp in
    let rq = reach_at qs j index depth q a e v some.2 x.same hq in
    elim some.3 [
      | inl apart ↦ (
        x.u,
        x.v,
        x.t,
        x.forward,
        λ k l hk hl. beyond ps qs i j index depth v _ _ halves wp wq rp rq apart
            k l hk hl n d m c,
      )
      | inr apart ↦ (
        neg_ℤ x.u,
        neg_ℤ x.v,
        neg_ℤ x.t,
        x.back,
        λ k l hk hl.
            let f = turned x.u x.v x.t (ps k n d).x (ps k n d).y (ps k n d).z in
            let g = turned x.u x.v x.t (qs l n d).x (qs l n d).y (qs l n d).z in
            let h = far_back _ _ halves (ps k n d).w (qs l n d).w
            (beyond qs ps j i index depth v _ _ halves wq wp rq rp apart l k hl hk n d m c) in
            subst (λ z. (pos 2 *ℤ (z *ℤ (qs l n d).w) +ℤ halves *ℤ ((ps k n d).w *ℤ (qs l n d).w))
            <ℤ (pos 2
            *ℤ ((neg_ℤ x.u *ℤ (qs l n d).x +ℤ neg_ℤ x.v *ℤ (qs l n d).y +ℤ neg_ℤ x.t *ℤ (qs l n d).z)
            *ℤ (ps k n d).w))) (sym f)
            (subst (λ z. (pos 2 *ℤ (neg_ℤ (x.u *ℤ (ps k n d).x +ℤ x.v *ℤ (ps k n d).y +ℤ x.t *ℤ (ps k n d).z)
            *ℤ (qs l n d).w) +ℤ halves *ℤ ((ps k n d).w *ℤ (qs l n d).w))
            <ℤ (pos 2 *ℤ (z *ℤ (ps k n d).w))) (sym g) h),
      )
    ]

-- a reach to read a list at where it ends
pub nowhere : Reach
nowhere = record {
  least_low = pos 0;
  least_high = pos 0;
  greatest_low = pos 0;
  greatest_high = pos 0;
  small_least_low = omega arith;
  small_least_high = omega arith;
  small_greatest_low = omega arith;
  small_greatest_high = omega arith;
}

-- where no axis parts them, neither way, no direction does
pub not_parted : (ps qs : Spots) (i j index depth : ℕ) (p q : List Reach) (halves : ℤ) → ArePositive ps
    → ArePositive qs
    → AreReaches ps 0 i index depth p → AreReaches qs 0 j index depth q → AllNear (halves *ℤ half) p q
    → Within index depth (λ n d. ¬ AreCornersParted halves ps i qs j n d)
not_parted ps qs i j index depth p q halves wp wq hp hq near n d m c h =
    let s = listed h.0 h.1 h.2 h.3 in
    let both = near s.0 nowhere s.1 in
    elim s.2 [
      | inl e ↦
          let v = h.0 ∷ h.1 ∷ h.2 ∷ [] in
          let b = not_beyond ps qs i j index depth v _ _ halves wp wq
          (reach_at ps i index depth p s.0 nowhere v s.1 e hp)
          (reach_at qs j index depth q s.0 nowhere v s.1 e hq) both.0 in
          not_less _ _ (b.4 n d m c) (h.4 b.0 b.1 b.2 b.3)
      | inr e ↦
          let v = neg_ℤ h.0 ∷ neg_ℤ h.1 ∷ neg_ℤ h.2 ∷ [] in
          let b = not_beyond qs ps j i index depth v _ _ halves wq wp
          (reach_at qs j index depth q s.0 nowhere v s.1 e hq)
          (reach_at ps i index depth p s.0 nowhere v s.1 e hp) both.1 in
          let l = b.0 in
          let k = b.1 in
          let f = turned h.0 h.1 h.2 (ps k n d).x (ps k n d).y (ps k n d).z in
          let g = turned h.0 h.1 h.2 (qs l n d).x (qs l n d).y (qs l n d).z in
          not_less _ _ (not_beyond_back _ _ halves (ps k n d).w (qs l n d).w _ _ f g (b.4 n d m c))
          (h.4 k l b.3 b.2)
    ]
  where
    not_beyond_back : (x y halves v w a b : ℤ) → a ≡ neg_ℤ x → b ≡ neg_ℤ y → (pos 2 *ℤ (a *ℤ w))
        ≤ℤ (pos 2 *ℤ (b *ℤ v) +ℤ halves *ℤ (w *ℤ v)) → (pos 2 *ℤ (y *ℤ v))
        ≤ℤ (pos 2 *ℤ (x *ℤ w) +ℤ halves *ℤ (v *ℤ w))
    not_beyond_back x y halves v w a b f g h =
        not_far_back x y halves v w
        (subst (λ z. (pos 2 *ℤ (neg_ℤ x *ℤ w)) ≤ℤ (pos 2 *ℤ (z *ℤ v) +ℤ halves *ℤ (w *ℤ v))) g
        (subst (λ z. (pos 2 *ℤ (z *ℤ w)) ≤ℤ (pos 2 *ℤ (b *ℤ v) +ℤ halves *ℤ (w *ℤ v))) f h))

-- at depth 36 the bounds are within half a unit of length, the lows and the highs
pub close_at_last : {spots : Spots} {from past index depth : ℕ} {v : List ℤ} {r : Reach} → depth ≡ 36
    → IsReach spots from past index depth v r → (r.least_high ≤ℤ (r.least_low +ℤ pos (2 ^ 38)))
    × (r.greatest_high ≤ℤ (r.greatest_low +ℤ pos (2 ^ 38)))
close_at_last {spots} {from} {past} {index} {depth} {v} {r} e h =
    (last r.least_low r.least_high h.close_lows, last r.greatest_low r.greatest_high h.close_highs)
  where
    last : (low high : ℤ) → high ≤ℤ (low +ℤ pos (units_at depth)) → high ≤ℤ (low +ℤ pos (2 ^ 38))
    last low high c = let l = subst (λ k. high ≤ℤ (low +ℤ pos (units_at k))) e c in omega (arith, ints, l)

-- at depth 36 one of the two holds
pub close_enough : (ps qs : Spots) (i j index depth : ℕ) (p q : List Reach) (room more : ℤ) → depth ≡ 36
    → (room +ℤ half) ≤ℤ more
    → AreReaches ps 0 i index depth p → AreReaches qs 0 j index depth q → ¬ (SomeApart room p q)
    → AllNear more p q
close_enough ps qs i j index depth p q room more e wide hp hq none a d l = (
  close (get_or p a d) (get_or q a d) (close_at_last e (hp a d l)).1 (close_at_last e (hq a d l)).0
      (λ h. none (a, d, l, inl h)),
  close (get_or q a d) (get_or p a d) (close_at_last e (hq a d l)).1 (close_at_last e (hp a d l)).0
      (λ h. none (a, d, l, inr h)),
)
  where
    close : (p q : Reach) → p.greatest_high ≤ℤ (p.greatest_low +ℤ pos (2 ^ 38))
        → q.least_high ≤ℤ (q.least_low +ℤ pos (2 ^ 38)) → ¬ (IsApart room p q) → IsNear more p q
    close p q a b n = by_lt_z (p.greatest_high +ℤ room) q.least_low (λ h. absurd (n h))
        (λ h. omega (arith, ints, a, b, h, wide))
