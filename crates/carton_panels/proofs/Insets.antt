-- The sides of a face moved inwards by a margin, and where two of them cross.
use Rattle.std.proofs.Common.{◌≡◌, ℕ, zero, suc, ℤ, pos, negsuc, neg_ℤ, ◌+ℤ◌, ◌-ℤ◌, ◌*ℤ◌, ◌≤ℤ◌, ◌<ℤ◌, ◌⊎◌}
use Rattle.std.proofs.Common.{inl, inr, unsigned_abs, arith, ap, sym, ◌∙◌, refl, subst}
use Rattle.std.specs.Prelude.{List, All, slice_index_or}
use Rattle.std.proofs.lemmas.Int.{ints}
use Rattle.carton_base.proofs.Products.{mul_le_right, mul_neg_right}
use Rattle.carton_base.proofs.Identities.{whole, less, ◌⊕◌, ◌⊖◌, ◌⊗◌, ◌⊜◌, by2, by4, by6, by8, by9, by12}
use Rattle.carton_base.specs.declared.dieline.Point.{Point}
use Rattle.carton_panels.specs.Panels.{Side, sides_of, leftness, InPanel}
use Rattle.carton_panels.specs.Shrinking.{AtOffsets, InShrunk, InsideShrunk}
use Rattle.carton_panels.specs.Insets.{KeepsAll, inset, line_a, line_b, line_e}
use Rattle.carton_panels.specs.Crossings.{cross}

-- and each strictly
abbrev pub KeepsStrictly : ℕ → List Point → ℤ → ℤ → ℤ → Type 0
KeepsStrictly m ps x y w = All (λ s. pos 0 <ℤ inset m s x y w) (sides_of ps)

pub inset_is : (m : ℕ) (s : Side) (x y w : ℤ) → inset m s x y w ≡ line_e m s *ℤ w -ℤ line_a s *ℤ x
    -ℤ line_b s *ℤ y
inset_is m s x y w =
    by8 (λ fx fy tx ty k x y w. (tx ⊖ fx) ⊗ (y ⊖ fy ⊗ w) ⊖ (ty ⊖ fy) ⊗ (x ⊖ fx ⊗ w) ⊖ k ⊗ w
    ⊜ (fx ⊗ (ty ⊖ fy) ⊖ fy ⊗ (tx ⊖ fx) ⊖ k) ⊗ w ⊖ (ty ⊖ fy) ⊗ x ⊖ (fx ⊖ tx) ⊗ y) refl s.from.x s.from.y s.to.x
    s.to.y (pos m *ℤ (pos (unsigned_abs (s.to.x -ℤ s.from.x)) +ℤ pos (unsigned_abs (s.to.y -ℤ s.from.y)))) x y
    w

pub cross_is : (s t : Side) → cross s t ≡ line_a s *ℤ line_b t -ℤ line_a t *ℤ line_b s
cross_is s t =
    by8 (λ fx fy tx ty gx gy ux uy. (tx ⊖ fx) ⊗ (uy ⊖ gy) ⊖ (ty ⊖ fy) ⊗ (ux ⊖ gx) ⊜ (ty ⊖ fy) ⊗ (gx ⊖ ux)
    ⊖ (uy ⊖ gy) ⊗ (fx ⊖ tx)) refl s.from.x s.from.y s.to.x s.to.y t.from.x t.from.y t.to.x t.to.y

-- the leftness of a point that lies p and q away along the axes
offset_is : (s : Side) (x y w p q : ℤ) → leftness s (x +ℤ p) (y +ℤ q) w
    ≡ leftness s x y w +ℤ ((s.to.x -ℤ s.from.x) *ℤ q -ℤ (s.to.y -ℤ s.from.y) *ℤ p)
offset_is s x y w p q =
    by9 (λ fx fy tx ty x y w p q. (tx ⊖ fx) ⊗ ((y ⊕ q) ⊖ fy ⊗ w) ⊖ (ty ⊖ fy) ⊗ ((x ⊕ p) ⊖ fx ⊗ w)
    ⊜ ((tx ⊖ fx) ⊗ (y ⊖ fy ⊗ w) ⊖ (ty ⊖ fy) ⊗ (x ⊖ fx ⊗ w)) ⊕ ((tx ⊖ fx) ⊗ q ⊖ (ty ⊖ fy) ⊗ p)) refl s.from.x
    s.from.y s.to.x s.to.y x y w p q

-- a number is its size or the negative of it
size_cases : (z : ℤ) → (z ≡ pos (unsigned_abs z)) ⊎ (z ≡ neg_ℤ (pos (unsigned_abs z)))
size_cases (pos n) = inl refl
size_cases (negsuc n) = inr refl

-- the margin's part along each axis
margin_is : (m : ℕ) (a b : ℕ) (w : ℤ) → (pos m *ℤ (pos a +ℤ pos b)) *ℤ w ≡ pos a *ℤ (pos m *ℤ w)
    +ℤ pos b *ℤ (pos m *ℤ w)
margin_is m a b w = by4 (λ m a b w. (m ⊗ (a ⊕ b)) ⊗ w ⊜ a ⊗ (m ⊗ w) ⊕ b ⊗ (m ⊗ w)) refl (pos m) (pos a)
    (pos b) w

-- a number times what is not negative lies within its size times that
pub record Within (z d : ℤ) : Type 0 where
  pub from : neg_ℤ (pos (unsigned_abs z) *ℤ d) ≤ℤ (z *ℤ d)
  pub upto : (z *ℤ d) ≤ℤ (pos (unsigned_abs z) *ℤ d)

within_size : (z d : ℤ) → pos 0 ≤ℤ d → Within z d
within_size z d h =
    record {
      from = omega (
        arith,
        ints,
        mul_le_right (neg_ℤ (pos (unsigned_abs z))) z d (omega (arith, ints))
            h,
        mul_neg_right (pos (unsigned_abs z)) d,
      );
      upto =
          mul_le_right z (pos (unsigned_abs z)) d (omega (arith, ints)) h;
    }

-- the margin times w
abbrev away : ℕ → ℤ → ℤ
away m w = pos m *ℤ w

not_negative : (m : ℕ) (w : ℤ) → pos 0 <ℤ w → pos 0 ≤ℤ away m w
not_negative m w h =
    omega (arith, ints, mul_le_right (pos 0) w (pos m) (omega (arith, ints, h)) (omega (arith, ints)))

times_negative : (z d : ℤ) → z *ℤ neg_ℤ d ≡ neg_ℤ (z *ℤ d)
times_negative z d = by2 (λ z d. z ⊗ less d ⊜ less (z ⊗ d)) refl z d

lower : (l r t k a b : ℤ) → r ≡ l +ℤ t → k ≡ a +ℤ b → neg_ℤ (a +ℤ b) ≤ℤ t → (l -ℤ k) ≤ℤ r
lower l r t k a b e f h = omega (arith, ints, e, f, h)

-- at the four offsets the leftness is at least the inset
at_least : (m : ℕ) (s : Side) (x y w : ℤ) → pos 0 <ℤ w
    → AtOffsets m (λ p q r. inset m s x y w ≤ℤ leftness s p q r) x y w
at_least m s x y w h =
    let d : ℤ = away m w in
    let dx : ℤ = s.to.x -ℤ s.from.x in
    let dy : ℤ = s.to.y -ℤ s.from.y in
    let u = within_size dx d (not_negative m w h) in
    let v = within_size dy d (not_negative m w h) in
    let a : ℤ = pos (unsigned_abs dx) *ℤ d in
    let b : ℤ = pos (unsigned_abs dy) *ℤ d in
    let at = λ (p q : ℤ) (low : neg_ℤ (a +ℤ b) ≤ℤ (dx *ℤ q -ℤ dy *ℤ p)). lower (leftness s x y w)
    (leftness s (x +ℤ p) (y +ℤ q) w) (dx *ℤ q -ℤ dy *ℤ p) _ a b (offset_is s x y w p q)
    (margin_is m (unsigned_abs dx) (unsigned_abs dy) w) low in (
      at d d (first (dx *ℤ d) (dy *ℤ d) a b u.from v.upto),
      at d (neg_ℤ d)
          (second (dx *ℤ d) (dy *ℤ d) (dx *ℤ neg_ℤ d) a b (times_negative dx d) u.upto v.upto),
      at (neg_ℤ d) d
          (third (dx *ℤ d) (dy *ℤ d) (dy *ℤ neg_ℤ d) a b (times_negative dy d) u.from v.from),
      at (neg_ℤ d)
          (neg_ℤ d) (fourth (dx *ℤ d) (dy *ℤ d) (dx *ℤ neg_ℤ d) (dy *ℤ neg_ℤ d) a b (times_negative dx d)
          (times_negative dy d) u.upto v.from),
    )
  where
    first : (u v a b : ℤ) → neg_ℤ a ≤ℤ u → v ≤ℤ b → neg_ℤ (a +ℤ b) ≤ℤ (u -ℤ v)
    first u v a b p q = omega (arith, ints, p, q)

    second : (u v u' a b : ℤ) → u' ≡ neg_ℤ u → u ≤ℤ a → v ≤ℤ b → neg_ℤ (a +ℤ b) ≤ℤ (u' -ℤ v)
    second u v u' a b e p q = omega (arith, ints, e, p, q)

    third : (u v v' a b : ℤ) → v' ≡ neg_ℤ v → neg_ℤ a ≤ℤ u → neg_ℤ b ≤ℤ v → neg_ℤ (a +ℤ b) ≤ℤ (u -ℤ v')
    third u v v' a b e p q = omega (arith, ints, e, p, q)

    fourth : (u v u' v' a b : ℤ) → u' ≡ neg_ℤ u → v' ≡ neg_ℤ v → u ≤ℤ a → neg_ℤ b ≤ℤ v
        → neg_ℤ (a +ℤ b) ≤ℤ (u' -ℤ v')
    fourth u v u' v' a b e f p q = omega (arith, ints, e, f, p, q)

-- what holds of the leftness at the four offsets holds of the inset: it is the leftness at one of them
at_one : (P : ℤ → Type 0) (m : ℕ) (s : Side) (x y w : ℤ) → AtOffsets m (λ p q r. P (leftness s p q r)) x y w
    → P (inset m s x y w)
at_one P m s x y w h =
    let d : ℤ = away m w in
    let dx : ℤ = s.to.x -ℤ s.from.x in
    let dy : ℤ = s.to.y -ℤ s.from.y in
    let a : ℤ = pos (unsigned_abs dx) *ℤ d in
    let b : ℤ = pos (unsigned_abs dy) *ℤ d in
    let at = λ (p q : ℤ) (t : P (leftness s (x +ℤ p) (y +ℤ q) w)) (e : dx *ℤ q -ℤ dy *ℤ p ≡ neg_ℤ (a +ℤ b)).
    subst P (exact (leftness s x y w) (leftness s (x +ℤ p) (y +ℤ q) w) (dx *ℤ q -ℤ dy *ℤ p) _ a b
    (offset_is s x y w p q) (margin_is m (unsigned_abs dx) (unsigned_abs dy) w) e) t in
    elim (size_cases dx) [
      | inl i ↦
          elim (size_cases dy) [
            | inl j ↦
                at d (neg_ℤ d) h.1
                (turned dx dy (dx *ℤ neg_ℤ d) (dy *ℤ d) a b (times_negative dx d ∙ ap neg_ℤ (ap (λ z. z *ℤ d) i))
                (ap (λ z. z *ℤ d) j))
            | inr j ↦
                at (neg_ℤ d) (neg_ℤ d) h.3
                (turned dx dy (dx *ℤ neg_ℤ d) (dy *ℤ neg_ℤ d) a b (times_negative dx d
                ∙ ap neg_ℤ (ap (λ z. z *ℤ d) i)) (ap (λ z. z *ℤ neg_ℤ d) j ∙ twice (pos (unsigned_abs dy)) d))
          ]
      | inr i ↦
          elim (size_cases dy) [
            | inl j ↦
                at d d h.0
                (turned dx dy (dx *ℤ d) (dy *ℤ d) a b (ap (λ z. z *ℤ d) i ∙ mul_neg_right (pos (unsigned_abs dx)) d)
                (ap (λ z. z *ℤ d) j))
            | inr j ↦
                at (neg_ℤ d) d h.2
                (turned dx dy (dx *ℤ d) (dy *ℤ neg_ℤ d) a b (ap (λ z. z *ℤ d) i
                ∙ mul_neg_right (pos (unsigned_abs dx)) d) (ap (λ z. z *ℤ neg_ℤ d) j
                ∙ twice (pos (unsigned_abs dy)) d))
          ]
    ]
  where
    exact : (l r t k a b : ℤ) → r ≡ l +ℤ t → k ≡ a +ℤ b → t ≡ neg_ℤ (a +ℤ b) → r ≡ l -ℤ k
    exact l r t k a b e f g = omega (arith, ints, e, f, g)

    turned : (dx dy u v a b : ℤ) → u ≡ neg_ℤ a → v ≡ b → u -ℤ v ≡ neg_ℤ (a +ℤ b)
    turned dx dy u v a b e f = omega (arith, ints, e, f)

    twice : (z d : ℤ) → neg_ℤ z *ℤ neg_ℤ d ≡ z *ℤ d
    twice z d = by2 (λ z d. less z ⊗ less d ⊜ z ⊗ d) refl z d

pub keeps_from_shrunk : (m : ℕ) (ps : List Point) (x y w : ℤ) → pos 0 <ℤ w → InShrunk m ps x y w
    → KeepsAll m ps x y w
keeps_from_shrunk m ps x y w p h = λ k d i. at_one (λ z. pos 0 ≤ℤ z) m (slice_index_or (sides_of ps) k d) x y
    w (h.0 k d i, h.1 k d i, h.2 k d i, h.3 k d i)

pub shrunk_from_keeps : (m : ℕ) (ps : List Point) (x y w : ℤ) → pos 0 <ℤ w → KeepsAll m ps x y w
    → InShrunk m ps x y w
shrunk_from_keeps m ps x y w p h = (
  λ k d i. at_most_by _ _ (h k d i) (at_least m (slice_index_or (sides_of ps) k d) x y w p).0,
  λ k d i.
      at_most_by _ _ (h k d i) (at_least m (slice_index_or (sides_of ps) k d) x y w p).1,
  λ k d i.
      at_most_by _ _ (h k d i) (at_least m (slice_index_or (sides_of ps) k d) x y w p).2,
  λ k d i.
      at_most_by _ _ (h k d i) (at_least m (slice_index_or (sides_of ps) k d) x y w p).3,
)
  where
    at_most_by : (a b : ℤ) → pos 0 ≤ℤ a → a ≤ℤ b → pos 0 ≤ℤ b
    at_most_by a b f g = omega (arith, ints, f, g)

pub strictly_from_inside : (m : ℕ) (ps : List Point) (x y w : ℤ) → pos 0 <ℤ w → InsideShrunk m ps x y w
    → KeepsStrictly m ps x y w
strictly_from_inside m ps x y w p h = λ k d i. at_one (λ z. pos 0 <ℤ z) m (slice_index_or (sides_of ps) k d) x
    y w (h.0 k d i, h.1 k d i, h.2 k d i, h.3 k d i)

pub inside_from_strictly : (m : ℕ) (ps : List Point) (x y w : ℤ) → pos 0 <ℤ w → KeepsStrictly m ps x y w
    → InsideShrunk m ps x y w
inside_from_strictly m ps x y w p h = (
  λ k d i. below_by _ _ (h k d i) (at_least m (slice_index_or (sides_of ps) k d) x y w p).0,
  λ k d i.
      below_by _ _ (h k d i) (at_least m (slice_index_or (sides_of ps) k d) x y w p).1,
  λ k d i.
      below_by _ _ (h k d i) (at_least m (slice_index_or (sides_of ps) k d) x y w p).2,
  λ k d i.
      below_by _ _ (h k d i) (at_least m (slice_index_or (sides_of ps) k d) x y w p).3,
)
  where
    below_by : (a b : ℤ) → pos 0 <ℤ a → a ≤ℤ b → pos 0 <ℤ b
    below_by a b f g = omega (arith, ints, f, g)

pub shrunk_in_panel : (m : ℕ) (ps : List Point) (x y w : ℤ) → pos 0 <ℤ w → InShrunk m ps x y w
    → InPanel ps x y w
shrunk_in_panel m ps x y w p h =
    λ k d i. left_of m (slice_index_or (sides_of ps) k d) x y w p (keeps_from_shrunk m ps x y w p h k d i)
  where
    above : (l k a b : ℤ) → k ≡ a +ℤ b → pos 0 ≤ℤ a → pos 0 ≤ℤ b → pos 0 ≤ℤ (l -ℤ k) → pos 0 ≤ℤ l
    above l k a b e f g h = omega (arith, ints, e, f, g, h)

    left_of : (m : ℕ) (s : Side) (x y w : ℤ) → pos 0 <ℤ w → pos 0 ≤ℤ inset m s x y w
        → pos 0 ≤ℤ leftness s x y w
    left_of m s x y w p h =
        above (leftness s x y w) _ _ _
        (margin_is m (unsigned_abs (s.to.x -ℤ s.from.x)) (unsigned_abs (s.to.y -ℤ s.from.y)) w)
        (times_size (unsigned_abs (s.to.x -ℤ s.from.x)) (away m w) (not_negative m w p))
        (times_size (unsigned_abs (s.to.y -ℤ s.from.y)) (away m w) (not_negative m w p)) h
      where
        times_size : (a : ℕ) (d : ℤ) → pos 0 ≤ℤ d → pos 0 ≤ℤ (pos a *ℤ d)
        times_size a d h = omega (arith, ints, mul_le_right (pos 0) (pos a) d (omega (arith, ints)) h)

-- the crossing of two lines by Cramer's rule lies on both
pub crossing_tight : (a b e c d f : ℤ)
    → (e *ℤ (a *ℤ d -ℤ c *ℤ b) -ℤ a *ℤ (e *ℤ d -ℤ f *ℤ b) -ℤ b *ℤ (a *ℤ f -ℤ c *ℤ e) ≡ pos 0)
    × (f *ℤ (a *ℤ d -ℤ c *ℤ b) -ℤ c *ℤ (e *ℤ d -ℤ f *ℤ b) -ℤ d *ℤ (a *ℤ f -ℤ c *ℤ e) ≡ pos 0)
crossing_tight a b e c d f = (
  by6 (λ a b e c d f. e ⊗ (a ⊗ d ⊖ c ⊗ b) ⊖ a ⊗ (e ⊗ d ⊖ f ⊗ b) ⊖ b ⊗ (a ⊗ f ⊖ c ⊗ e) ⊜ whole 0) refl a b e
      c d f,
  by6 (λ a b e c d f. f ⊗ (a ⊗ d ⊖ c ⊗ b) ⊖ c ⊗ (e ⊗ d ⊖ f ⊗ b) ⊖ d ⊗ (a ⊗ f ⊖ c ⊗ e) ⊜ whole 0) refl
      a b e c d f,
)

-- the three parts of the crossing of the inset lines of two sides
abbrev pub crossing_x : ℕ → Side → Side → ℤ
crossing_x m s t = line_e m s *ℤ line_b t -ℤ line_e m t *ℤ line_b s

abbrev pub crossing_y : ℕ → Side → Side → ℤ
crossing_y m s t = line_a s *ℤ line_e m t -ℤ line_a t *ℤ line_e m s

abbrev pub crossing_w : Side → Side → ℤ
crossing_w s t = line_a s *ℤ line_b t -ℤ line_a t *ℤ line_b s

pub crossing_insets : (m : ℕ) (s t : Side)
    → (inset m s (crossing_x m s t) (crossing_y m s t) (crossing_w s t) ≡ pos 0)
    × (inset m t (crossing_x m s t) (crossing_y m s t) (crossing_w s t) ≡ pos 0)
crossing_insets m s t =
    let c = crossing_tight (line_a s) (line_b s) (line_e m s) (line_a t) (line_b t) (line_e m t) in (
      inset_is m s (crossing_x m s t) (crossing_y m s t) (crossing_w s t)
          ∙ c.0,
      inset_is m t (crossing_x m s t) (crossing_y m s t) (crossing_w s t) ∙ c.1,
    )

-- a number is nought where its product with a number that isn't is
pub zero_factor : (z c : ℤ) → ¬ (c ≡ pos 0) → z *ℤ c ≡ pos 0 → z ≡ pos 0
zero_factor z (pos zero) n e = absurd (n refl)
zero_factor (pos j) (pos (suc k)) n e = omega (arith, ints, e)
zero_factor (negsuc j) (pos (suc k)) n e = absurd (omega (arith, ints, e))
zero_factor (pos j) (negsuc k) n e = omega (arith, ints, e)
zero_factor (negsuc j) (negsuc k) n e = absurd (omega (arith, ints, e))

-- two flat points on the same two crossing lines are one
lines_meet_once : (a b e c d f x y w x' y' w' : ℤ) → ¬ (a *ℤ d -ℤ c *ℤ b ≡ pos 0) → e *ℤ w -ℤ a *ℤ x -ℤ b *ℤ y
    ≡ pos 0 → f *ℤ w -ℤ c *ℤ x -ℤ d *ℤ y ≡ pos 0 → e *ℤ w' -ℤ a *ℤ x' -ℤ b *ℤ y' ≡ pos 0
    → f *ℤ w' -ℤ c *ℤ x' -ℤ d *ℤ y' ≡ pos 0 → (x *ℤ w' ≡ x' *ℤ w) × (y *ℤ w' ≡ y' *ℤ w)
lines_meet_once a b e c d f x y w x' y' w' n p q r t = (
  same (x *ℤ w') (x' *ℤ w)
      (zero_factor (x *ℤ w' -ℤ x' *ℤ w) (a *ℤ d -ℤ c *ℤ b) n
      (by12 (λ a b e c d f x y w x' y' w'. (x ⊗ w' ⊖ x' ⊗ w) ⊗ (a ⊗ d ⊖ c ⊗ b)
      ⊜ w ⊗ (d ⊗ (e ⊗ w' ⊖ a ⊗ x' ⊖ b ⊗ y') ⊖ b ⊗ (f ⊗ w' ⊖ c ⊗ x' ⊖ d ⊗ y'))
      ⊖ w' ⊗ (d ⊗ (e ⊗ w ⊖ a ⊗ x ⊖ b ⊗ y) ⊖ b ⊗ (f ⊗ w ⊖ c ⊗ x ⊖ d ⊗ y))) refl a b e c d f x y w x' y' w'
      ∙ all_nought w d _ b _ w' _ _ r t p q)),
  same (y *ℤ w') (y' *ℤ w)
      (zero_factor (y *ℤ w' -ℤ y' *ℤ w) (a *ℤ d -ℤ c *ℤ b) n
      (by12 (λ a b e c d f x y w x' y' w'. (y ⊗ w' ⊖ y' ⊗ w) ⊗ (a ⊗ d ⊖ c ⊗ b)
      ⊜ w ⊗ (a ⊗ (f ⊗ w' ⊖ c ⊗ x' ⊖ d ⊗ y') ⊖ c ⊗ (e ⊗ w' ⊖ a ⊗ x' ⊖ b ⊗ y'))
      ⊖ w' ⊗ (a ⊗ (f ⊗ w ⊖ c ⊗ x ⊖ d ⊗ y) ⊖ c ⊗ (e ⊗ w ⊖ a ⊗ x ⊖ b ⊗ y))) refl a b e c d f x y w x' y' w'
      ∙ all_nought w a _ c _ w' _ _ t r q p)),
)
  where
    same : (a b : ℤ) → a -ℤ b ≡ pos 0 → a ≡ b
    same a b e = omega (arith, ints, e)

    all_nought : (w d p b q w' p' q' : ℤ) → p ≡ pos 0 → q ≡ pos 0 → p' ≡ pos 0 → q' ≡ pos 0
        → w *ℤ (d *ℤ p -ℤ b *ℤ q) -ℤ w' *ℤ (d *ℤ p' -ℤ b *ℤ q') ≡ pos 0
    all_nought w d p b q w' p' q' e f g h =
        rw (e, f, g, h)
        (by4 (λ w d b w'. w ⊗ (d ⊗ whole 0 ⊖ b ⊗ whole 0) ⊖ w' ⊗ (d ⊗ whole 0 ⊖ b ⊗ whole 0) ⊜ whole 0) refl w
        d b w')

-- two flat points on the inset lines of the same two crossing sides are one
pub crossing_unique : (m : ℕ) (s t : Side) → ¬ (cross s t ≡ pos 0) → (x y w x' y' w' : ℤ)
    → inset m s x y w ≡ pos 0 → inset m t x y w ≡ pos 0 → inset m s x' y' w' ≡ pos 0
    → inset m t x' y' w' ≡ pos 0 → (x *ℤ w' ≡ x' *ℤ w) × (y *ℤ w' ≡ y' *ℤ w)
crossing_unique m s t n x y w x' y' w' a b c d =
    lines_meet_once (line_a s) (line_b s) (line_e m s) (line_a t) (line_b t) (line_e m t) x y w x' y' w'
    (λ z. n (cross_is s t ∙ z)) (sym (inset_is m s x y w) ∙ a) (sym (inset_is m t x y w) ∙ b)
    (sym (inset_is m s x' y' w') ∙ c) (sym (inset_is m t x' y' w') ∙ d)
