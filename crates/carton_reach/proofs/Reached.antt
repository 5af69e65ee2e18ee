-- The reach of one corner, and of one corner more.
use Rattle.std.proofs.Common.{◌≡◌, ℕ, zero, suc, ◌+◌, ◌-◌, ◌*◌, ◌<◌, ◌≤◌, ◌^◌, List, ℤ, pos, ◌-ℤ◌, ◌*ℤ◌}
use Rattle.std.proofs.Common.{◌≤ℤ◌, ◌<ℤ◌}
use Rattle.std.proofs.Common.{◌+ℤ◌, unsigned_abs, arith, sym, ◌∙◌, subst, ◌⊎◌, inl, inr}
use Rattle.std.specs.Int.{int_min, int_max}
use Rattle.std.proofs.lemmas.Int.{ints, clamps, by_lt_z}
use Rattle.std.proofs.lemmas.Bool.{cases_lt}
use Rattle.carton_base.specs.Moments.{IsMoment, InPiece}
use Rattle.carton_base.specs.Rounding.{unit}
use Rattle.carton_base.proofs.Products.{mul_le_right}
use Rattle.carton_model.specs.Parting.{Position}
use Rattle.carton_enclose.specs.Held.{Holding}
use Rattle.carton_enclose.specs.Points.{dot}
use Rattle.carton_enclose.specs.declared.space.Space.{Space}
use Rattle.carton_place.specs.Held.{HoldsPosition}
use Rattle.carton_reach.specs.declared.reach.Reach.{Reach}
use Rattle.carton_reach.specs.Beyond.{Spots, ArePositive}
use Rattle.carton_reach.specs.Corners.{HoldsAlong, IsReachAt, IsJoined, IsWidened}
use Rattle.carton_reach.specs.Reaches.{Within, IsAbove, IsBelow, IsReach, units_at}

-- the moment of the piece that is this moment of the move
pub own_moment : (index depth n d : ℕ) → IsMoment n d → InPiece index depth n d
    → IsMoment (n * 2 ^ depth - index * d) d
own_moment index depth n d m i = record { within = omega (arith, i.upto); some = m.some }

natural : (z : ℤ) → pos 0 <ℤ z → (pos (unsigned_abs z) ≡ z) × (0 < unsigned_abs z)
natural z h = (omega (arith, ints, h), omega (arith, ints, h))

-- the reach of one corner by its two bounds
pub one_reach : {E : Type 0} (holds : Holding E) (spread : E → ℕ) (s : Space E) (v : List ℤ) (low high : ℤ)
    (r : Reach) → r.least_low ≡ low → r.least_high ≡ high → r.greatest_low ≡ low → r.greatest_high ≡ high
    → HoldsAlong holds s v low high → (high -ℤ low) ≤ℤ pos (spread s.x + spread s.y + spread s.z)
    → IsReachAt holds spread s v r
one_reach holds spread s v low high r a b c d along narrow = record {
  one_low = c ∙ sym a;
  one_high = d ∙ sym b;
  between =
      subst (λ l. HoldsAlong holds s v l r.least_high) (sym a)
      (subst (λ h. HoldsAlong holds s v low h) (sym b) along);
  close = omega (arith, ints, narrow, a, b);
}

-- at every moment of the piece the space holds where the corner is
abbrev pub HoldsCorner : {E : Type 0} → Holding E → Space E → Spots → ℕ → ℕ → ℕ → Type 0
HoldsCorner holds s spots k index depth =
    Within index depth (λ n d. HoldsPosition holds s (n * 2 ^ depth - index * d) d (spots k n d))

-- one corner lies along the direction from low to high
between : {E : Type 0} (holds : Holding E) (spread : E → ℕ) (s : Space E) (spots : Spots) (k index depth : ℕ)
    (v : List ℤ) (r : Reach)
    → HoldsCorner holds s spots k index depth → IsReachAt holds spread s v r
    → Within index depth (λ n d. IsAbove v r.least_low (spots k n d)
    × IsBelow v r.least_high (spots k n d))
between holds spread s spots k index depth v r held reach n d m i =
    let q = spots k n d in
    let h = held n d m i in
    let w = natural q.w h.positive in
    let b = reach.between (n * 2 ^ depth - index * d) d q.x q.y q.z (unsigned_abs q.w)
    (own_moment index depth n d m i) w.1 h.point in (
      subst (λ z. (r.least_low *ℤ z) ≤ℤ (dot v q.x q.y q.z *ℤ unit)) w.0 b.from,
      subst (λ z. (dot v q.x q.y q.z *ℤ unit) ≤ℤ (r.least_high *ℤ z)) w.0 b.upto,
    )

-- two bounds that are no farther apart than the spread are close; over a whole move their sizes are enough
close_bounds : (low high : ℤ) (wide depth : ℕ) → unsigned_abs low ≤ 2 ^ 66 → unsigned_abs high ≤ 2 ^ 66
    → (high -ℤ low) ≤ℤ pos wide → (0 < depth → wide ≤ units_at depth)
    → high ≤ℤ (low +ℤ pos (units_at depth))
close_bounds low high wide zero a b h narrow = omega (arith, ints, a, b)
close_bounds low high wide (suc k) a b h narrow = let l = narrow (omega arith) in omega (arith, ints, h, l)

-- the reach of one corner
pub reach_of_one : {E : Type 0} (holds : Holding E) (spread : E → ℕ) (s : Space E) (spots : Spots)
    (k index depth : ℕ) (v : List ℤ) (r : Reach)
    → HoldsCorner holds s spots k index depth
    → (0 < depth → spread s.x + spread s.y + spread s.z ≤ units_at depth)
    → IsReachAt holds spread s v r → IsReach spots k (k + 1) index depth v r
reach_of_one holds spread s spots k index depth v r held narrow reach =
    let only : (j : ℕ) → k ≤ j → j < k + 1 → k ≡ j = λ j a b. omega (arith, a, b) in
    let lies = between holds spread s spots k index depth v r held reach in
    record {
      above = λ j a b n d m i. subst (λ j. IsAbove v r.least_low (spots j n d)) (only j a b) (lies n d m i).0;
      below = λ j a b n d m i. subst (λ j. IsBelow v r.greatest_high (spots j n d)) (only j a b)
          (subst (λ h. IsBelow v h (spots k n d)) (sym reach.one_high) (lies n d m i).1);
      some_below = (k, omega arith, omega arith, λ n d m i. (lies n d m i).1);
      some_above = (
        k,
        omega arith,
        omega arith,
        λ n d m i. subst (λ l. IsAbove v l (spots k n d)) (sym reach.one_low)
            (lies n d m i).0,
      );
      close_lows = close_bounds r.least_low r.least_high _ depth r.small_least_low r.small_least_high
          reach.close narrow;
      close_highs = close_bounds r.greatest_low r.greatest_high _ depth r.small_greatest_low
          r.small_greatest_high (omega (arith, ints, reach.close, reach.one_low, reach.one_high)) narrow;
    }

least_is : (x y : ℤ) → (int_min x y ≡ x) ⊎ (int_min x y ≡ y)
least_is x y =
    by_lt_z x y (λ l. inl (omega (arith, ints, clamps, l))) (λ l. inr (omega (arith, ints, clamps, l)))

greatest_is : (x y : ℤ) → (int_max x y ≡ x) ⊎ (int_max x y ≡ y)
greatest_is x y =
    by_lt_z x y (λ l. inr (omega (arith, ints, clamps, l))) (λ l. inl (omega (arith, ints, clamps, l)))

lower : (v : List ℤ) (low less : ℤ) (p : Position) → pos 0 <ℤ p.w → less ≤ℤ low → IsAbove v low p
    → IsAbove v less p
lower v low less p w h a = let l = mul_le_right less low p.w h (omega (arith, ints, w)) in
    omega (arith, ints, l, a)

higher : (v : List ℤ) (high more : ℤ) (p : Position) → pos 0 <ℤ p.w → high ≤ℤ more → IsBelow v high p
    → IsBelow v more p
higher v high more p w h a = let l = mul_le_right high more p.w h (omega (arith, ints, w)) in
    omega (arith, ints, l, a)

-- the reach of more corners
reach_of_both : (spots : Spots) (from mid past index depth : ℕ) (v : List ℤ) (p q r : Reach)
    → ArePositive spots → from ≤ mid → mid ≤ past
    → IsReach spots from mid index depth v p → IsReach spots mid past index depth v q → IsJoined p q r
    → IsReach spots from past index depth v r
reach_of_both spots from mid past index depth v p q r w fm mp hp hq j = record {
  above = λ k a b n d m i. elim (cases_lt k mid) [
    | inl l ↦
        lower v p.least_low r.least_low (spots k n d) (w k n d m) (omega (arith, ints, clamps, j.least_low))
        (hp.above k a l n d m i)
    | inr l ↦
        lower v q.least_low r.least_low (spots k n d) (w k n d m) (omega (arith, ints, clamps, j.least_low))
        (hq.above k l b n d m i)
  ];
  below = λ k a b n d m i. elim (cases_lt k mid) [
    | inl l ↦ higher v p.greatest_high r.greatest_high (spots k n d) (w k n d m)
        (omega (arith, ints, clamps, j.greatest_high)) (hp.below k a l n d m i)
    | inr l ↦ higher v q.greatest_high r.greatest_high (spots k n d) (w k n d m)
        (omega (arith, ints, clamps, j.greatest_high)) (hq.below k l b n d m i)
  ];
  some_below = elim (least_is p.least_high q.least_high) [
    | inl e ↦ let s = hp.some_below in (
      s.0,
      s.1,
      omega (arith, s.2, mp),
      λ n d m i. subst (λ h. IsBelow v h (spots s.0 n d))
          (sym (j.least_high ∙ e)) (s.3 n d m i),
    )
    | inr e ↦ let s = hq.some_below in (
      s.0,
      omega (arith, s.1, fm),
      s.2,
      λ n d m i. subst (λ h. IsBelow v h (spots s.0 n d))
          (sym (j.least_high ∙ e)) (s.3 n d m i),
    )
  ];
  some_above = elim (greatest_is p.greatest_low q.greatest_low) [
    | inl e ↦ let s = hp.some_above in (
      s.0,
      s.1,
      omega (arith, s.2, mp),
      λ n d m i. subst (λ h. IsAbove v h (spots s.0 n d))
          (sym (j.greatest_low ∙ e)) (s.3 n d m i),
    )
    | inr e ↦ let s = hq.some_above in (
      s.0,
      omega (arith, s.1, fm),
      s.2,
      λ n d m i. subst (λ h. IsAbove v h (spots s.0 n d))
          (sym (j.greatest_low ∙ e)) (s.3 n d m i),
    )
  ];
  close_lows = omega (arith, ints, clamps, hp.close_lows, hq.close_lows, j.least_low, j.least_high);
  close_highs = omega (arith, ints, clamps, hp.close_highs, hq.close_highs, j.greatest_low, j.greatest_high);
}

-- the reach with one corner more
pub reach_of_more : {E : Type 0} (holds : Holding E) (spread : E → ℕ) (s : Space E) (spots : Spots)
    (k index depth : ℕ) (v : List ℤ) (p r : Reach) → ArePositive spots
    → HoldsCorner holds s spots k index depth
    → (0 < depth → spread s.x + spread s.y + spread s.z ≤ units_at depth)
    → IsReach spots 0 k index depth v p → IsWidened holds spread s v p r
    → IsReach spots 0 (k + 1) index depth v r
reach_of_more holds spread s spots k index depth v p r w held narrow before more =
    reach_of_both spots 0 k (k + 1) index depth v p more.corner r w (omega arith) (omega arith) before
    (reach_of_one holds spread s spots k index depth v more.corner held narrow more.reach) more.joined
