-- A list of kept crossings is complete where each pair of sides, in their order, has its crossing covered.
use Rattle.std.proofs.Common.{◌≡◌, ℕ, ℤ, pos, neg_ℤ, ◌+ℤ◌, ◌-ℤ◌, ◌*ℤ◌, ◌≤ℤ◌, ◌<ℤ◌, ◌<◌, unsigned_abs, arith}
use Rattle.std.proofs.Common.{ap, sym, ◌∙◌, refl, subst, List, length, All}
use Rattle.std.specs.Prelude.{slice_index_or}
use Rattle.std.proofs.lemmas.Int.{ints, by_lt_z}
use Rattle.std.proofs.lemmas.List.Elements.{All-weaker, at_from_Contains}
use Rattle.carton_base.specs.declared.dieline.Point.{Point}
use Rattle.carton_base.specs.declared.numbers.Triple.{Triple}
use Rattle.carton_model.specs.Dielines.{IsNear}
use Rattle.carton_panels.specs.Panels.{Side, sides_of, IsConvex}
use Rattle.carton_model.specs.Points.{IsNearPoint}
use Rattle.carton_panels.specs.Shrinking.{InShrunk}
use Rattle.carton_base.proofs.Identities.{whole, less, ◌⊕◌, ◌⊖◌, ◌⊗◌, ◌⊜◌, by2, by4, by6, by8}
use Rattle.carton_panels.specs.Insets.{KeepsAll, inset}
use Rattle.carton_panels.specs.Crossings.{CoversPair, IsCovered, cross}
use Rattle.carton_panels.proofs.Insets.{zero_factor, crossing_unique, shrunk_from_keeps, shrunk_in_panel}
use Rattle.carton_panels.proofs.Ratios.{positive_factor, product_not_negative, at_most}
use Rattle.carton_panels.proofs.Exits.{inset_times}
use Rattle.carton_panels.proofs.Generating.{IsComplete, panel_near}

-- the inset at the negative of a triple
pub inset_less : (m : ℕ) (s : Side) (x y w : ℤ) → inset m s x y w ≡ pos 0
    → inset m s (neg_ℤ x) (neg_ℤ y) (neg_ℤ w) ≡ pos 0
inset_less m s x y w e = turned (inset m s (neg_ℤ x) (neg_ℤ y) (neg_ℤ w)) (inset m s x y w)
    (by8 (λ fx fy tx ty k x y w. (tx ⊖ fx) ⊗ (less y ⊖ fy ⊗ less w) ⊖ (ty ⊖ fy) ⊗ (less x ⊖ fx ⊗ less w)
    ⊖ k ⊗ less w ⊜ less ((tx ⊖ fx) ⊗ (y ⊖ fy ⊗ w) ⊖ (ty ⊖ fy) ⊗ (x ⊖ fx ⊗ w) ⊖ k ⊗ w)) refl s.from.x s.from.y
    s.to.x s.to.y
    (pos m *ℤ (pos (unsigned_abs (s.to.x -ℤ s.from.x)) +ℤ pos (unsigned_abs (s.to.y -ℤ s.from.y)))) x y w) e
  where
    turned : (z c : ℤ) → z ≡ neg_ℤ c → c ≡ pos 0 → z ≡ pos 0
    turned z c e f = omega (arith, ints, e, f)

-- one flat point in two triples: insets differ by the positive weights
pub inset_same : (m : ℕ) (s : Side) (x y w x' y' w' : ℤ) → x *ℤ w' ≡ x' *ℤ w → y *ℤ w' ≡ y' *ℤ w
    → w' *ℤ inset m s x y w ≡ w *ℤ inset m s x' y' w'
inset_same m s x y w x' y' w' e f =
    sym (inset_times m s w' x y w)
    ∙ ap (λ z. inset m s z (w' *ℤ y) (w' *ℤ w)) (turned w' x ∙ e ∙ turned x' w)
    ∙ ap (λ z. inset m s (w *ℤ x') z (w' *ℤ w)) (turned w' y ∙ f ∙ turned y' w)
    ∙ ap (λ z. inset m s (w *ℤ x') (w *ℤ y') z) (turned w' w)
    ∙ inset_times m s w x' y' w'
  where
    turned : (a b : ℤ) → a *ℤ b ≡ b *ℤ a
    turned a b = omega (arith, ints)

pub keeps_same : (m : ℕ) (ps : List Point) (x y w x' y' w' : ℤ) → pos 0 <ℤ w → pos 0 <ℤ w' → x *ℤ w' ≡ x' *ℤ w
    → y *ℤ w' ≡ y' *ℤ w → KeepsAll m ps x y w → KeepsAll m ps x' y' w'
keeps_same m ps x y w x' y' w' p p' e f =
    All-weaker (λ s. pos 0 ≤ℤ inset m s x y w) (λ s. pos 0 ≤ℤ inset m s x' y' w')
    (λ s h. positive_factor w (inset m s x' y' w') p
    (subst (λ z. pos 0 ≤ℤ z) (inset_same m s x y w x' y' w' e f)
    (product_not_negative w' (inset m s x y w) (at_most (pos 0) w' p') h))) (sides_of ps)

-- one flat point in three triples
pub same_through : (a u b v c w : ℤ) → pos 0 <ℤ v → a *ℤ v ≡ b *ℤ u → b *ℤ w ≡ c *ℤ v → a *ℤ w ≡ c *ℤ u
same_through a u b v c w p e f =
    equal (a *ℤ w) (c *ℤ u)
    (zero_factor (a *ℤ w -ℤ c *ℤ u) v (apart v p)
    (by6 (λ a u b v c w. (a ⊗ w ⊖ c ⊗ u) ⊗ v ⊜ w ⊗ (a ⊗ v ⊖ b ⊗ u) ⊕ u ⊗ (b ⊗ w ⊖ c ⊗ v)) refl a u b v c w
    ∙ nought w u (a *ℤ v -ℤ b *ℤ u) (b *ℤ w -ℤ c *ℤ v) (gone _ _ e) (gone _ _ f)))
  where
    gone : (a b : ℤ) → a ≡ b → a -ℤ b ≡ pos 0
    gone a b e = omega (arith, ints, e)

    nought : (w u p q : ℤ) → p ≡ pos 0 → q ≡ pos 0 → w *ℤ p +ℤ u *ℤ q ≡ pos 0
    nought w u p q e f = rw (e, f) (by2 (λ w u. w ⊗ whole 0 ⊕ u ⊗ whole 0 ⊜ whole 0) refl w u)

    equal : (a b : ℤ) → a -ℤ b ≡ pos 0 → a ≡ b
    equal a b e = omega (arith, ints, e)

    apart : (v : ℤ) → pos 0 <ℤ v → ¬ (v ≡ pos 0)
    apart v h e = absurd (omega (arith, ints, h, e))

-- where the crossing (x'/w', y'/w') of two sides is covered if it keeps all, so is each kept point on both
-- inset lines
pub covers : (m : ℕ) (ps : List Point) (ts : List Triple) (s t : Side) → ¬ (cross s t ≡ pos 0)
    → (x' y' w' : ℤ) → pos 0 <ℤ w' → inset m s x' y' w' ≡ pos 0 → inset m t x' y' w' ≡ pos 0
    → (KeepsAll m ps x' y' w' → IsCovered ts x' y' w') → (x y w : ℤ) → pos 0 <ℤ w → inset m s x y w ≡ pos 0
    → inset m t x y w ≡ pos 0 → KeepsAll m ps x y w → IsCovered ts x y w
covers m ps ts s t n x' y' w' p' a b covered x y w p c d keeps =
    let u = crossing_unique m s t n x y w x' y' w' c d a b in
    let k = covered (keeps_same m ps x y w x' y' w' p p' u.0 u.1 keeps) in (
      k.0,
      k.1,
      same_through k.0.x k.0.w x' w' x w p' k.2 (sym u.0),
      same_through k.0.y k.0.w y' w' y w p' k.3
          (sym u.1),
    )

-- each pair of sides once is enough
pub complete_by_pairs : (m : ℕ) (ps : List Point) (ts : List Triple) → All (λ t. KeepsAll m ps t.x t.y t.w) ts
    → ((i j : ℕ) (d : Side) → i < j → j < length (sides_of ps)
    → CoversPair m ps ts (slice_index_or (sides_of ps) i d) (slice_index_or (sides_of ps) j d))
    → IsComplete m ps ts
complete_by_pairs m ps ts members pairs = record {
  members = members;
  crossings = λ s t cs ct. let i = at_from_Contains (sides_of ps) s cs in
      let j = at_from_Contains (sides_of ps) t ct in by_lt_z (pos i.0) (pos j.0)
      (λ h. placed i.0 j.0 s t (omega (arith, ints, h)) j.1 (i.2 s) (j.2 s))
      (λ h. by_lt_z (pos j.0) (pos i.0)
      (λ g n x y w p a b keeps. placed j.0 i.0 t s (omega (arith, ints, g)) i.1 (j.2 t) (i.2 t)
      (λ z. n (crossed_back s t z)) x y w p b a keeps)
      (λ g n.
      absurd (n
      (crossed_itself s t (sym (i.2 s) ∙ ap (λ k. slice_index_or (sides_of ps) k s) (met i.0 j.0 h g)
      ∙ j.2 s)))));
}
  where
    placed : (i j : ℕ) (s t : Side) → i < j → j < length (sides_of ps) → slice_index_or (sides_of ps) i s ≡ s
        → slice_index_or (sides_of ps) j s ≡ t → CoversPair m ps ts s t
    placed i j s t h l e f =
        subst (λ z. CoversPair m ps ts z t) e
        (subst (λ z. CoversPair m ps ts (slice_index_or (sides_of ps) i s) z) f (pairs i j s h l))

    met : (i j : ℕ) → pos j ≤ℤ pos i → pos i ≤ℤ pos j → i ≡ j
    met i j g h = omega (arith, ints, g, h)

    crossed_back : (s t : Side) → cross t s ≡ pos 0 → cross s t ≡ pos 0
    crossed_back s t e =
        turned (cross s t) (cross t s)
        (by8 (λ fx fy tx ty gx gy ux uy. (tx ⊖ fx) ⊗ (uy ⊖ gy) ⊖ (ty ⊖ fy) ⊗ (ux ⊖ gx)
        ⊜ less ((ux ⊖ gx) ⊗ (ty ⊖ fy) ⊖ (uy ⊖ gy) ⊗ (tx ⊖ fx))) refl s.from.x s.from.y s.to.x s.to.y t.from.x
        t.from.y t.to.x t.to.y) e
      where
        turned : (z c : ℤ) → z ≡ neg_ℤ c → c ≡ pos 0 → z ≡ pos 0
        turned z c e f = omega (arith, ints, e, f)

    crossed_itself : (s t : Side) → s ≡ t → cross s t ≡ pos 0
    crossed_itself s t e =
        subst (λ z. cross s z ≡ pos 0) e
        (by4 (λ fx fy tx ty. (tx ⊖ fx) ⊗ (ty ⊖ fy) ⊖ (ty ⊖ fy) ⊗ (tx ⊖ fx) ⊜ whole 0) refl s.from.x s.from.y
        s.to.x s.to.y)

-- the corners that keep all lie in the shrunk panel
pub members_shrunk : (m : ℕ) (ps : List Point) (ts : List Triple) → All (λ t. KeepsAll m ps t.x t.y t.w) ts
    → All (λ t. InShrunk m ps t.x t.y t.w) ts
members_shrunk m ps ts h = All-weaker (λ t. KeepsAll m ps t.x t.y t.w) (λ t. InShrunk m ps t.x t.y t.w)
    (λ t k. shrunk_from_keeps m ps t.x t.y t.w t.positive k) ts h

-- and near the origin
pub members_near : (m : ℕ) (ps : List Point) (ts : List Triple) → 0 < length ps → All IsNear ps → IsConvex ps
    → All (λ t. KeepsAll m ps t.x t.y t.w) ts → All IsNearPoint ts
members_near m ps ts some near convex h =
    All-weaker (λ t. KeepsAll m ps t.x t.y t.w) IsNearPoint
    (λ t k. let b = panel_near ps some near convex t.x t.y t.w t.positive
    (shrunk_in_panel m ps t.x t.y t.w t.positive (shrunk_from_keeps m ps t.x t.y t.w t.positive k)) in
    record { x = b.0; y = b.1 }) ts h
