-- What goes round the sides of a face: every direction leads out over some side, and no flat point of the
-- panel lies beyond all vertices.
use Rattle.std.proofs.Common.{◌≡◌, ℤ, pos, neg_ℤ, ◌+ℤ◌, ◌-ℤ◌, ◌*ℤ◌, ◌≤ℤ◌, ◌<ℤ◌, ◌<◌, arith, ◌∙◌, refl, List}
use Rattle.std.proofs.Common.{[], ◌∷◌, length, All}
use Rattle.std.proofs.lemmas.Int.{ints}
use Rattle.std.proofs.lemmas.List.Elements.{All-nil, All-cons, All-tail, All-head, All-contains, All-weaker}
use Rattle.carton_base.specs.declared.dieline.Point.{Point}
use Rattle.carton_panels.specs.Around.{steps}
use Rattle.carton_panels.specs.Panels.{Side, sides_of, leftness, IsStrictlyLeft, IsConvex, InPanel}
use Rattle.carton_base.proofs.Identities.{whole, less, ◌⊕◌, ◌⊖◌, ◌⊗◌, ◌⊜◌, by2, by6, by7, by8}
use Rattle.carton_panels.specs.Insets.{line_a, line_b}
use Rattle.carton_panels.proofs.Insets.{zero_factor}
use Rattle.carton_panels.proofs.Ratios.{All-both, product_not_negative, positive_factor}

-- how fast the direction (u, v) leads out over the side
abbrev pub rise : Side → ℤ → ℤ → ℤ
rise s u v = line_a s *ℤ u +ℤ line_b s *ℤ v

-- the direction isn't nought
abbrev pub Moves : ℤ → ℤ → Type 0
Moves u v = ¬ ((u ≡ pos 0) × (v ≡ pos 0))

-- where the point lies across the direction (u, v)
abbrev pub level : ℤ → ℤ → Point → ℤ
level u v q = q.y *ℤ u -ℤ q.x *ℤ v

rise_is : (s : Side) (u v : ℤ) → rise s u v ≡ level u v s.to -ℤ level u v s.from
rise_is s u v = by6 (λ fx fy tx ty u v. (ty ⊖ fy) ⊗ u ⊕ (fx ⊖ tx) ⊗ v ⊜ (ty ⊗ u ⊖ tx ⊗ v) ⊖ (fy ⊗ u ⊖ fx ⊗ v))
    refl s.from.x s.from.y s.to.x s.to.y u v

-- a relation that holds along each side, and is carried on between points with G, holds from the first point
-- to each and from each to the last
pub chain : (G : Point → Type 0) (R : Point → Point → Type 0)
    (on : (p q r : Point) → G p → G q → G r → R p q → R q r → R p r) (p : Point) (ps : List Point)
    (last : Point) → G p → All G ps → G last → All (λ s. R s.from s.to) (steps p ps last) → R p last
    × All (λ q. R p q × R q last) ps
chain G R on p [] last gp gs gl h =
    (h 0 record { from = p; to = last } (omega arith), All-nil (λ q. R p q × R q last))
chain G R on p (q ∷ qs) last gp gs gl h =
    let first : R p q = h 0 record { from = p; to = last } (omega arith) in
    let gq : G q = All-head G q qs gs in
    let gqs : All G qs = All-tail G q qs gs in
    let rest = chain G R on q qs last gq gqs gl (All-tail (λ s. R s.from s.to) record { from = p; to = q }
    (steps q qs last) h) in (
      on p q last gp gq gl first rest.0,
      All-cons (λ r. R p r × R r last) q qs (first, rest.0)
          (All-both G (λ r. R q r × R r last) (λ r. R p r × R r last)
          (λ r gr e. (on p q r gp gq gr first e.0, e.1)) qs gqs rest.1),
    )

-- two directions in one line with a third: the cross product of the two is nought
in_line : (dx dy rx ry u v : ℤ) → dy *ℤ u -ℤ dx *ℤ v ≡ pos 0 → ry *ℤ u -ℤ rx *ℤ v ≡ pos 0
    → pos 0 <ℤ (dx *ℤ ry -ℤ dy *ℤ rx) → (u ≡ pos 0) × (v ≡ pos 0)
in_line dx dy rx ry u v a b h =
    let apart : ¬ (dx *ℤ ry -ℤ dy *ℤ rx ≡ pos 0) = λ z. positive_apart _ h z in (
      zero_factor u (dx *ℤ ry -ℤ dy *ℤ rx) apart
          (by6 (λ dx dy rx ry u v. u ⊗ (dx ⊗ ry ⊖ dy ⊗ rx) ⊜ dx ⊗ (ry ⊗ u ⊖ rx ⊗ v) ⊖ rx ⊗ (dy ⊗ u ⊖ dx ⊗ v))
          refl dx dy rx ry u v ∙ nought dx rx _ _ b a),
      zero_factor v (dx *ℤ ry -ℤ dy *ℤ rx) apart
          (by6 (λ dx dy rx ry u v. v ⊗ (dx ⊗ ry ⊖ dy ⊗ rx) ⊜ dy ⊗ (ry ⊗ u ⊖ rx ⊗ v) ⊖ ry ⊗ (dy ⊗ u ⊖ dx ⊗ v))
          refl dx dy rx ry u v ∙ nought dy ry _ _ b a),
    )
  where
    positive_apart : (z : ℤ) → pos 0 <ℤ z → z ≡ pos 0 → ⊥
    positive_apart z h e = absurd (omega (arith, ints, h, e))

    nought : (c d p q : ℤ) → p ≡ pos 0 → q ≡ pos 0 → c *ℤ p -ℤ d *ℤ q ≡ pos 0
    nought c d p q e f = rw (e, f) (by2 (λ c d. c ⊗ whole 0 ⊖ d ⊗ whole 0 ⊜ whole 0) refl c d)

-- a side and a point at one level across (u, v): the point isn't strictly left of the side
level_side : (u v : ℤ) (s : Side) (r : Point) → level u v s.to ≡ level u v s.from
    → level u v r ≡ level u v s.from → IsStrictlyLeft s r.x r.y (pos 1) → (u ≡ pos 0) × (v ≡ pos 0)
level_side u v s r e f h = in_line (s.to.x -ℤ s.from.x) (s.to.y -ℤ s.from.y) (r.x -ℤ s.from.x *ℤ pos 1)
    (r.y -ℤ s.from.y *ℤ pos 1) u v
    (by6 (λ fx fy tx ty u v. (ty ⊖ fy) ⊗ u ⊖ (tx ⊖ fx) ⊗ v ⊜ (ty ⊗ u ⊖ tx ⊗ v) ⊖ (fy ⊗ u ⊖ fx ⊗ v)) refl
    s.from.x s.from.y s.to.x s.to.y u v ∙ gone _ _ e)
    (by6 (λ fx fy rx ry u v. (ry ⊖ fy ⊗ whole 1) ⊗ u ⊖ (rx ⊖ fx ⊗ whole 1) ⊗ v
    ⊜ (ry ⊗ u ⊖ rx ⊗ v) ⊖ (fy ⊗ u ⊖ fx ⊗ v)) refl s.from.x s.from.y r.x r.y u v ∙ gone _ _ f)
    h
  where
    gone : (a b : ℤ) → a ≡ b → a -ℤ b ≡ pos 0
    gone a b e = omega (arith, ints, e)

-- a convex face has vertices at two levels
pub not_level : (u v : ℤ) (p : Point) (ps : List Point) → Moves u v → IsConvex (p ∷ ps)
    → All (λ q. level u v q ≡ level u v p) ps → ⊥
not_level u v p [] n convex same =
    let some = (convex 0 record { from = p; to = p } (omega arith)).1 in
    n (level_side u v record { from = p; to = p } some.1 refl
    (All-contains (λ q. level u v q ≡ level u v p) (p ∷ []) some.1
    (All-cons (λ q. level u v q ≡ level u v p) p [] refl same) (some.0, some.2, some.3)) some.4)
not_level u v p (q ∷ qs) n convex same =
    let some = (convex 0 record { from = p; to = q } (omega arith)).1 in
    n (level_side u v record { from = p; to = q } some.1 (All-head (λ q. level u v q ≡ level u v p) q qs same)
    (All-contains (λ q. level u v q ≡ level u v p) (p ∷ q ∷ qs) some.1
    (All-cons (λ q. level u v q ≡ level u v p) p (q ∷ qs) refl same) (some.0, some.2, some.3)) some.4)

-- every direction leads out over some side of a convex face
pub some_rises : (u v : ℤ) (ps : List Point) → 0 < length ps → Moves u v → IsConvex ps
    → All (λ s. rise s u v ≤ℤ pos 0) (sides_of ps) → ⊥
some_rises u v [] l n convex h = absurd (omega (arith, l))
some_rises u v (p ∷ ps) l n convex h =
    let along = chain (λ q. Unit {0}) (λ p q. level u v q ≤ℤ level u v p)
    (λ a b c _ _ _ d e. over (level u v a) (level u v b) (level u v c) d e) p ps p tt (λ k d i. tt) tt
    (All-weaker (λ s. rise s u v ≤ℤ pos 0) (λ s. level u v s.to ≤ℤ level u v s.from)
    (λ s e. falls (rise s u v) (level u v s.to) (level u v s.from) (rise_is s u v) e) (steps p ps p) h) in
    not_level u v p ps n convex (All-weaker (λ q. (level u v q ≤ℤ level u v p) × (level u v p ≤ℤ level u v q))
    (λ q. level u v q ≡ level u v p) (λ q e. met (level u v q) (level u v p) e.0 e.1) ps along.1)
  where
    over : (a b c : ℤ) → b ≤ℤ a → c ≤ℤ b → c ≤ℤ a
    over a b c d e = omega (arith, ints, d, e)

    falls : (r a b : ℤ) → r ≡ a -ℤ b → r ≤ℤ pos 0 → a ≤ℤ b
    falls r a b e h = omega (arith, ints, e, h)

    met : (a b : ℤ) → a ≤ℤ b → b ≤ℤ a → a ≡ b
    met a b d e = omega (arith, ints, d, e)

-- seen from the flat point (x/w, y/w), in w-ths: how far q turns left of p
abbrev seen : ℤ → ℤ → ℤ → Point → Point → ℤ
seen x y w p q = (w *ℤ p.x -ℤ x) *ℤ (w *ℤ q.y -ℤ y) -ℤ (w *ℤ p.y -ℤ y) *ℤ (w *ℤ q.x -ℤ x)

seen_is : (x y w : ℤ) (s : Side) → seen x y w s.from s.to ≡ w *ℤ leftness s x y w
seen_is x y w s =
    by7 (λ fx fy tx ty x y w. (w ⊗ fx ⊖ x) ⊗ (w ⊗ ty ⊖ y) ⊖ (w ⊗ fy ⊖ y) ⊗ (w ⊗ tx ⊖ x)
    ⊜ w ⊗ ((tx ⊖ fx) ⊗ (y ⊖ fy ⊗ w) ⊖ (ty ⊖ fy) ⊗ (x ⊖ fx ⊗ w))) refl s.from.x s.from.y s.to.x s.to.y x y w

-- turns to the left within one half plane add up
turns : (a b px py qx qy rx ry : ℤ) → (a *ℤ px +ℤ b *ℤ py) <ℤ pos 0 → (a *ℤ qx +ℤ b *ℤ qy) <ℤ pos 0
    → (a *ℤ rx +ℤ b *ℤ ry) <ℤ pos 0 → pos 0 ≤ℤ (px *ℤ qy -ℤ py *ℤ qx) → pos 0 ≤ℤ (qx *ℤ ry -ℤ qy *ℤ rx)
    → pos 0 ≤ℤ (px *ℤ ry -ℤ py *ℤ rx)
turns a b px py qx qy rx ry gp gq gr e f = positive_factor (neg_ℤ (a *ℤ qx +ℤ b *ℤ qy)) (px *ℤ ry -ℤ py *ℤ rx)
    (above _ gq)
    (sum _ _ _
    (by8 (λ a b px py qx qy rx ry. less (a ⊗ qx ⊕ b ⊗ qy) ⊗ (px ⊗ ry ⊖ py ⊗ rx)
    ⊜ less (a ⊗ px ⊕ b ⊗ py) ⊗ (qx ⊗ ry ⊖ qy ⊗ rx) ⊕ less (a ⊗ rx ⊕ b ⊗ ry) ⊗ (px ⊗ qy ⊖ py ⊗ qx)) refl a
    b px py qx qy rx ry)
    (product_not_negative _ _ (from _ gp) f) (product_not_negative _ _ (from _ gr) e))
  where
    above : (z : ℤ) → z <ℤ pos 0 → pos 0 <ℤ neg_ℤ z
    above z h = omega (arith, ints, h)

    from : (z : ℤ) → z <ℤ pos 0 → pos 0 ≤ℤ neg_ℤ z
    from z h = omega (arith, ints, h)

    sum : (z a b : ℤ) → z ≡ a +ℤ b → pos 0 ≤ℤ a → pos 0 ≤ℤ b → pos 0 ≤ℤ z
    sum z a b e f g = omega (arith, ints, e, f, g)

-- how far the point lies beyond (x/w, y/w) in the direction (a, b), times w
abbrev pub beyond : ℤ → ℤ → ℤ → ℤ → ℤ → Point → ℤ
beyond a b x y w q = a *ℤ (w *ℤ q.x -ℤ x) +ℤ b *ℤ (w *ℤ q.y -ℤ y)

-- no flat point of the panel has all vertices behind it
pub not_beyond : (a b x y w : ℤ) (p : Point) (ps : List Point) → pos 0 <ℤ w → IsConvex (p ∷ ps)
    → InPanel (p ∷ ps) x y w → All (λ q. beyond a b x y w q <ℤ pos 0) (p ∷ ps) → ⊥
not_beyond a b x y w p ps h convex inside behind =
    let u : ℤ = w *ℤ p.x -ℤ x in
    let v : ℤ = w *ℤ p.y -ℤ y in
    let gp : beyond a b x y w p <ℤ pos 0 = All-head (λ q. beyond a b x y w q <ℤ pos 0) p ps behind in
    let gs : All (λ q. beyond a b x y w q <ℤ pos 0) ps = All-tail (λ q. beyond a b x y w q <ℤ pos 0) p ps
    behind in
    let along = chain (λ q. beyond a b x y w q <ℤ pos 0) (λ p q. pos 0 ≤ℤ seen x y w p q)
    (λ p q r gp gq gr e f. turns a b (w *ℤ p.x -ℤ x) (w *ℤ p.y -ℤ y) (w *ℤ q.x -ℤ x) (w *ℤ q.y -ℤ y)
    (w *ℤ r.x -ℤ x) (w *ℤ r.y -ℤ y) gp gq gr e f) p ps p gp gs gp
    (All-weaker (λ s. pos 0 ≤ℤ leftness s x y w) (λ s. pos 0 ≤ℤ seen x y w s.from s.to)
    (λ s e. same (seen x y w s.from s.to) (w *ℤ leftness s x y w) (seen_is x y w s)
    (product_not_negative w (leftness s x y w) (from w h) e)) (steps p ps p) inside) in
    not_level u v p ps (λ z. still a b u v z.0 z.1 gp) convex
    (All-weaker (λ q. (pos 0 ≤ℤ seen x y w p q) × (pos 0 ≤ℤ seen x y w q p))
    (λ q. level u v q ≡ level u v p) (λ q e. levels q e.0 e.1) ps along.1)
  where
    from : (z : ℤ) → pos 0 <ℤ z → pos 0 ≤ℤ z
    from z h = omega (arith, ints, h)

    same : (a b : ℤ) → a ≡ b → pos 0 ≤ℤ b → pos 0 ≤ℤ a
    same a b e f = omega (arith, ints, e, f)

    still : (a b u v : ℤ) → u ≡ pos 0 → v ≡ pos 0 → (a *ℤ u +ℤ b *ℤ v) <ℤ pos 0 → ⊥
    still a b u v e f =
        rw (e, f) (λ (g : (a *ℤ pos 0 +ℤ b *ℤ pos 0) <ℤ pos 0). absurd (omega (arith, ints, g)))

    nought : (c d : ℤ) → d ≡ neg_ℤ c → pos 0 ≤ℤ c → pos 0 ≤ℤ d → c ≡ pos 0
    nought c d e f g = omega (arith, ints, e, f, g)

    equal : (a b : ℤ) → a -ℤ b ≡ pos 0 → a ≡ b
    equal a b e = omega (arith, ints, e)

    apart : (w : ℤ) → pos 0 <ℤ w → ¬ (w ≡ pos 0)
    apart w h e = absurd (omega (arith, ints, h, e))

    levels : (q : Point) → pos 0 ≤ℤ seen x y w p q → pos 0 ≤ℤ seen x y w q p
        → level (w *ℤ p.x -ℤ x) (w *ℤ p.y -ℤ y) q ≡ level (w *ℤ p.x -ℤ x) (w *ℤ p.y -ℤ y) p
    levels q e f =
        equal _ _
        (zero_factor (level (w *ℤ p.x -ℤ x) (w *ℤ p.y -ℤ y) q -ℤ level (w *ℤ p.x -ℤ x) (w *ℤ p.y -ℤ y) p) w
        (apart w h)
        (by7 (λ px py qx qy x y w. ((qy ⊗ (w ⊗ px ⊖ x) ⊖ qx ⊗ (w ⊗ py ⊖ y))
        ⊖ (py ⊗ (w ⊗ px ⊖ x) ⊖ px ⊗ (w ⊗ py ⊖ y))) ⊗ w ⊜ (w ⊗ px ⊖ x) ⊗ (w ⊗ qy ⊖ y)
        ⊖ (w ⊗ py ⊖ y) ⊗ (w ⊗ qx ⊖ x)) refl p.x p.y q.x q.y x y w
        ∙ nought (seen x y w p q) (seen x y w q p) (by7
        (λ px py qx qy x y w. (w ⊗ qx ⊖ x) ⊗ (w ⊗ py ⊖ y) ⊖ (w ⊗ qy ⊖ y) ⊗ (w ⊗ px ⊖ x)
        ⊜ less ((w ⊗ px ⊖ x) ⊗ (w ⊗ qy ⊖ y) ⊖ (w ⊗ py ⊖ y) ⊗ (w ⊗ qx ⊖ x))) refl p.x p.y q.x q.y x y w) e
        f))
