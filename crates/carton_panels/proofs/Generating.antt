-- The kept crossings of the inset lines of a convex face generate its shrunk panel.
use Rattle.std.proofs.Common.{◌≡◌, ℕ, zero, suc, ◌*◌, ◌<◌, ◌≤◌, ℤ, pos, negsuc, neg_ℤ, ◌+ℤ◌, ◌-ℤ◌, ◌*ℤ◌, ◌≤ℤ◌}
use Rattle.std.proofs.Common.{◌<ℤ◌, ◌⊎◌, inl, inr, unsigned_abs, arith, ap, sym, ◌∙◌, refl, List, [], ◌∷◌}
use Rattle.std.proofs.Common.{length, All, Any, Contains}
use Rattle.std.specs.Prelude.{slice_index_or}
use Rattle.std.proofs.lemmas.Int.{ints, by_lt_z}
use Rattle.std.proofs.lemmas.List.Elements.{All-head, All-tail, All-weaker, All-contains}
use Rattle.carton_base.specs.declared.dieline.Point.{Point}
use Rattle.carton_base.specs.declared.numbers.Triple.{Triple}
use Rattle.carton_base.proofs.Products.{mul_comm_ℤ}
use Rattle.carton_base.specs.declared.limits.TheConstants.{FARTHEST}
use Rattle.carton_model.specs.Dielines.{IsNear}
use Rattle.carton_panels.specs.Panels.{Side, sides_of, IsConvex, InPanel}
use Rattle.carton_panels.specs.Shrinking.{InShrunk, IsThin, HasRoom, IsMeanOf}
use Rattle.carton_base.proofs.Identities.{whole, less, ◌⊕◌, ◌⊖◌, ◌⊗◌, ◌⊜◌, by2, by3, by5}
use Rattle.carton_panels.specs.Insets.{KeepsAll, inset}
use Rattle.carton_panels.specs.Crossings.{cross}
use Rattle.carton_panels.proofs.Insets.{KeepsStrictly, keeps_from_shrunk, shrunk_from_keeps}
use Rattle.carton_panels.proofs.Insets.{strictly_from_inside, inside_from_strictly}
use Rattle.carton_panels.proofs.Ratios.{product_positive, product_not_negative, at_most, mul_le_left}
use Rattle.carton_panels.proofs.Chains.{rise, Moves, beyond, not_beyond}
use Rattle.carton_panels.proofs.Exits.{Exit, exit, inset_along, inset_add, inset_times, run_x, run_y}
use Rattle.carton_panels.proofs.Exits.{rise_run, rise_back, rise_itself, side_moves}
use Rattle.carton_panels.proofs.Means.{IsMeanOfTwo, mean_by, part_between, weight_between, part_same}
use Rattle.carton_panels.proofs.Means.{weight_same, part_beyond, weight_beyond}

-- the list has only points that keep all, and each point that keeps all and lies on the inset lines of two
-- crossing sides
pub record IsComplete (m : ℕ) (ps : List Point) (ts : List Triple) : Type 0 where
  pub members : All (λ t. KeepsAll m ps t.x t.y t.w) ts
  pub crossings : (s t : Side) → Contains (sides_of ps) s → Contains (sides_of ps) t → ¬ (cross s t ≡ pos 0)
      → (x y w : ℤ) → pos 0 <ℤ w → inset m s x y w ≡ pos 0 → inset m t x y w ≡ pos 0 → KeepsAll m ps x y w
      → (k : Triple) × Contains ts k × (k.x *ℤ w ≡ x *ℤ k.w) × (k.y *ℤ w ≡ y *ℤ k.w)

-- a tight point moved along its side stays tight
stays_tight : (z n t r d : ℤ) → z ≡ n *ℤ t -ℤ r *ℤ d → t ≡ pos 0 → d ≡ pos 0 → z ≡ pos 0
stays_tight z n t r d e f g = rw (e, f, g) (by2 (λ n r. n ⊗ whole 0 ⊖ r ⊗ whole 0 ⊜ whole 0) refl n r)

not_nought : (z c : ℤ) → z ≡ c → pos 0 <ℤ z → ¬ (c ≡ pos 0)
not_nought z c e h f = absurd (omega (arith, ints, e, h, f))

not_nought_back : (z c : ℤ) → z ≡ neg_ℤ c → pos 0 <ℤ z → ¬ (c ≡ pos 0)
not_nought_back z c e h f = absurd (omega (arith, ints, e, h, f))

-- a kept point on a side's inset line lies between two corners, or is one
pub between_corners : (m : ℕ) (ps : List Point) (ts : List Triple) → 0 < length ps → IsConvex ps
    → IsComplete m ps ts → (s : Side) → Contains (sides_of ps) s → Moves (run_x s) (run_y s) → (x y w : ℤ)
    → pos 0 <ℤ w → inset m s x y w ≡ pos 0 → KeepsAll m ps x y w → IsMeanOfTwo ts x y w
between_corners m ps ts some convex complete s at moves x y w h tight keeps =
    let dx : ℤ = run_x s in
    let dy : ℤ = run_y s in
    let f = exit m ps x y w dx dy some convex moves keeps in
    let g = exit m ps x y w (neg_ℤ dx) (neg_ℤ dy) some convex (λ z. moves (turned dx z.0, turned dy z.1))
    keeps in
    let n : ℤ = rise f.side dx dy in
    let j : ℤ = rise g.side (neg_ℤ dx) (neg_ℤ dy) in
    let r : ℤ = inset m f.side x y w in
    let t : ℤ = inset m g.side x y w in
    let a = complete.crossings s f.side at f.at (not_nought n (cross s f.side) (rise_run s f.side) f.rises) _
    _ _ (product_positive n w f.rises h)
    (stays_tight _ n (inset m s x y w) r _ (inset_along m s n r x y w dx dy) tight (rise_itself s).0)
    f.tight f.keeps in
    let b = complete.crossings s g.side at g.at
    (not_nought_back j (cross s g.side) (rise_back s g.side) g.rises) _ _ _
    (product_positive j w g.rises h)
    (stays_tight _ j (inset m s x y w) t _ (inset_along m s j t x y w (neg_ℤ dx) (neg_ℤ dy)) tight
    (rise_itself s).1) g.tight g.keeps in
    let c : ℤ = a.0.w in
    let e : ℤ = b.0.w in
    by_lt_z (pos 0) r
    (λ up. record {
      a = a.0;
      b = b.0;
      at_a = a.1;
      at_b = b.1;
      k = (t *ℤ n +ℤ r *ℤ j) *ℤ (c *ℤ e);
      l = (t *ℤ e) *ℤ (n *ℤ w);
      n = (r *ℤ c) *ℤ (j *ℤ w);
      some = product_positive (t *ℤ n +ℤ r *ℤ j) (c *ℤ e)
          (sum (t *ℤ n) (r *ℤ j) (product_not_negative t n g.room (at_most (pos 0) n f.rises))
          (product_positive r j up g.rises)) (product_positive c e a.0.positive b.0.positive);
      part_a =
          product_not_negative (t *ℤ e) (n *ℤ w)
          (product_not_negative t e g.room (at_most (pos 0) e b.0.positive))
          (at_most (pos 0) (n *ℤ w) (product_positive n w f.rises h));
      part_b =
          product_not_negative (r *ℤ c) (j *ℤ w)
          (product_not_negative r c f.room (at_most (pos 0) c a.0.positive))
          (at_most (pos 0) (j *ℤ w) (product_positive j w g.rises h));
      x_part = part_between n r j t x dx w a.0.x c b.0.x e a.2 b.2;
      y_part = part_between n r j t y dy w a.0.y c b.0.y e a.3 b.3;
      w_part = weight_between n r j t w c e;
    })
    (λ down. let z : r ≡ pos 0 = nought r f.room down in record {
      a = a.0;
      b = a.0;
      at_a = a.1;
      at_b = a.1;
      k = n *ℤ c;
      l = n *ℤ w;
      n = pos 0;
      some = product_positive n c f.rises a.0.positive;
      part_a = at_most (pos 0) (n *ℤ w) (product_positive n w f.rises h);
      part_b = omega (arith, ints);
      x_part = part_same n r x dx w a.0.x c z a.2;
      y_part = part_same n r y dy w a.0.y c z a.3;
      w_part = weight_same n w c;
    })
  where
    turned : (z : ℤ) → neg_ℤ z ≡ pos 0 → z ≡ pos 0
    turned z e = omega (arith, ints, e)

    sum : (a b : ℤ) → pos 0 ≤ℤ a → pos 0 <ℤ b → pos 0 <ℤ (a +ℤ b)
    sum a b p q = omega (arith, ints, p, q)

    nought : (z : ℤ) → pos 0 ≤ℤ z → z ≤ℤ pos 0 → z ≡ pos 0
    nought z p q = omega (arith, ints, p, q)

-- the point where a way leads out lies between two corners
pub exit_between : (m : ℕ) (ps : List Point) (ts : List Triple) → 0 < length ps → IsConvex ps
    → IsComplete m ps ts → (x y w u v : ℤ) → pos 0 <ℤ w → (e : Exit m ps x y w u v)
    → IsMeanOfTwo ts (rise e.side u v *ℤ x +ℤ inset m e.side x y w *ℤ u) (rise e.side u v *ℤ y
    +ℤ inset m e.side x y w *ℤ v) (rise e.side u v *ℤ w)
exit_between m ps ts some convex complete x y w u v h e =
    between_corners m ps ts some convex complete e.side e.at (side_moves e.side u v e.rises) _ _ _
    (product_positive (rise e.side u v) w e.rises h) e.tight e.keeps

zero_or : (z : ℤ) → (z ≡ pos 0) ⊎ ¬ (z ≡ pos 0)
zero_or (pos zero) = inl refl
zero_or (pos (suc n)) = inr (λ e. absurd (omega (arith, ints, e)))
zero_or (negsuc n) = inr (λ e. absurd (omega (arith, ints, e)))

still_or_moves : (u v : ℤ) → ((u ≡ pos 0) × (v ≡ pos 0)) ⊎ Moves u v
still_or_moves u v =
    elim (zero_or u) [
      | inl e ↦ elim (zero_or v) [ inl f ↦ inl (e, f) | inr n ↦ inr (λ z. n z.1) ]
      | inr n ↦
          inr (λ z. n z.0)
    ]

-- a kept point is a mean of a corner c and of two others
mean_with : (m : ℕ) (ps : List Point) (ts : List Triple) → 0 < length ps → IsConvex ps → IsComplete m ps ts
    → (x y w : ℤ) → pos 0 <ℤ w → KeepsAll m ps x y w → (c : Triple) → Contains ts c → IsMeanOf ts x y w
mean_with m ps ts some convex complete x y w h keeps c at =
    let u : ℤ = x *ℤ c.w -ℤ c.x *ℤ w in
    let v : ℤ = y *ℤ c.w -ℤ c.y *ℤ w in
    elim (still_or_moves u v) [
      | inl z ↦ (
        c,
        c,
        c,
        at,
        at,
        at,
        mean_by x y w c c c c.w w (pos 0) (pos 0) c.positive (at_most (pos 0) w h)
            (omega (arith, ints)) (omega (arith, ints)) (same x c.w c.x w z.0) (same y c.w c.y w z.1)
            (itself c.w w),
      )
      | inr moves ↦
          let e = exit m ps x y w u v some convex moves keeps in
          let b = exit_between m ps ts some convex complete x y w u v h e in
          let n : ℤ = rise e.side u v in
          let s : ℤ = inset m e.side x y w in (
            b.a,
            b.b,
            c,
            b.at_a,
            b.at_b,
            at,
            mean_by x y w b.a b.b c (b.k *ℤ (n +ℤ s *ℤ c.w)) b.l b.n (b.k *ℤ (s *ℤ w))
                (product_positive b.k (n +ℤ s *ℤ c.w) b.some
                (sum n (s *ℤ c.w) e.rises
                (product_not_negative s c.w e.room (at_most (pos 0) c.w c.positive))))
                b.part_a b.part_b
                (product_not_negative b.k (s *ℤ w) (at_most (pos 0) b.k b.some)
                (product_not_negative s w e.room (at_most (pos 0) w h)))
                (part_beyond b.k n s x w c.x c.w b.l b.a.x b.n b.b.x b.x_part)
                (part_beyond b.k n s y w c.y c.w b.l b.a.y b.n b.b.y b.y_part)
                (weight_beyond b.k n s w c.w b.l b.a.w b.n b.b.w b.w_part),
          )
    ]
  where
    sum : (a b : ℤ) → pos 0 <ℤ a → pos 0 ≤ℤ b → pos 0 <ℤ (a +ℤ b)
    sum a b p q = omega (arith, ints, p, q)

    same : (x c p w : ℤ) → x *ℤ c -ℤ p *ℤ w ≡ pos 0 → c *ℤ x ≡ w *ℤ p +ℤ pos 0 *ℤ p +ℤ pos 0 *ℤ p
    same x c p w e = omega (arith, ints, e)

    itself : (c w : ℤ) → c *ℤ w ≡ w *ℤ c +ℤ pos 0 *ℤ c +ℤ pos 0 *ℤ c
    itself c w = omega (arith, ints)

pub generates : (m : ℕ) (ps : List Point) (ts : List Triple) → 0 < length ps → IsConvex ps
    → IsComplete m ps ts → (x y w : ℤ) → pos 0 <ℤ w → InShrunk m ps x y w → IsMeanOf ts x y w
generates m ps ts some convex complete x y w p h =
    let keeps = keeps_from_shrunk m ps x y w p h in
    let b = exit_between m ps ts some convex complete x y w (pos 1) (pos 0) p
    (exit m ps x y w (pos 1) (pos 0) some convex (λ z. absurd (omega (arith, ints, z.0))) keeps) in
    mean_with m ps ts some convex complete x y w p keeps b.a b.at_a

-- ---- room and thinness
-- the sum of what f gives for each member
abbrev total : (Triple → ℤ) → List Triple → ℤ
total f [] = pos 0
total f (t ∷ ts) = f t +ℤ total f ts

total_not_negative : (f : Triple → ℤ) (ts : List Triple) → All (λ t. pos 0 ≤ℤ f t) ts → pos 0 ≤ℤ total f ts
total_not_negative f [] h = omega (arith, ints)
total_not_negative f (t ∷ ts) h =
    sum (f t) (total f ts) (All-head (λ t. pos 0 ≤ℤ f t) t ts h)
    (total_not_negative f ts (All-tail (λ t. pos 0 ≤ℤ f t) t ts h))
  where
    sum : (a b : ℤ) → pos 0 ≤ℤ a → pos 0 ≤ℤ b → pos 0 ≤ℤ (a +ℤ b)
    sum a b p q = omega (arith, ints, p, q)

total_positive : (f : Triple → ℤ) (ts : List Triple) (k : ℕ) (x : Triple) → All (λ t. pos 0 ≤ℤ f t) ts
    → k < length ts → slice_index_or ts k x ≡ x → pos 0 <ℤ f x → pos 0 <ℤ total f ts
total_positive f [] k x h l e p = absurd (omega (arith, l))
total_positive f (t ∷ ts) zero x h l e p =
    first (f t) (total f ts) (f x) (ap f e) p (total_not_negative f ts (All-tail (λ t. pos 0 ≤ℤ f t) t ts h))
  where
    first : (a b c : ℤ) → a ≡ c → pos 0 <ℤ c → pos 0 ≤ℤ b → pos 0 <ℤ (a +ℤ b)
    first a b c e p q = omega (arith, ints, e, p, q)
total_positive f (t ∷ ts) (suc k) x h l e p =
    later (f t) (total f ts) (All-head (λ t. pos 0 ≤ℤ f t) t ts h)
    (total_positive f ts k x (All-tail (λ t. pos 0 ≤ℤ f t) t ts h) (omega (arith, l)) e p)
  where
    later : (a b : ℤ) → pos 0 ≤ℤ a → pos 0 <ℤ b → pos 0 <ℤ (a +ℤ b)
    later a b p q = omega (arith, ints, p, q)

inset_total : (m : ℕ) (s : Side) (ts : List Triple)
    → inset m s (total (λ t. t.x) ts) (total (λ t. t.y) ts) (total (λ t. t.w) ts)
    ≡ total (λ t. inset m s t.x t.y t.w) ts
inset_total m s [] =
    by5 (λ fx fy tx ty k. (tx ⊖ fx) ⊗ (whole 0 ⊖ fy ⊗ whole 0) ⊖ (ty ⊖ fy) ⊗ (whole 0 ⊖ fx ⊗ whole 0)
    ⊖ k ⊗ whole 0 ⊜ whole 0) refl s.from.x s.from.y s.to.x s.to.y
    (pos m *ℤ (pos (unsigned_abs (s.to.x -ℤ s.from.x)) +ℤ pos (unsigned_abs (s.to.y -ℤ s.from.y))))
inset_total m s (t ∷ ts) =
    inset_add m s t.x t.y t.w (total (λ t. t.x) ts) (total (λ t. t.y) ts) (total (λ t. t.w) ts)
    ∙ ap (λ z. inset m s t.x t.y t.w +ℤ z) (inset_total m s ts)

-- room: there are kept corners, and no side's inset line holds all of them
pub has_room : (m : ℕ) (ps : List Point) (ts : List Triple) → IsComplete m ps ts → 0 < length ts
    → All (λ s. Any (λ (t : Triple). pos 0 <ℤ inset m s t.x t.y t.w) ts) (sides_of ps) → HasRoom m ps
has_room m ps [] complete some free = absurd (omega (arith, some))
has_room m ps (c ∷ cs) complete some free =
    let ts : List Triple = c ∷ cs in
    let w : ℤ = total (λ t. t.w) ts in
    let positive : pos 0 <ℤ w =
    total_positive (λ t. t.w) ts 0 c
    (λ k d i. at_most (pos 0) (slice_index_or ts k d).w (slice_index_or ts k d).positive) some refl
    c.positive in
    record {
      x = total (λ t. t.x) ts;
      y = total (λ t. t.y) ts;
      w = w;
      positive = positive;
      inside = inside_from_strictly m ps _ _ w positive (λ k d i. let a = free k d i in
          same _ _ (inset_total m (slice_index_or (sides_of ps) k d) ts)
          (total_positive (λ t. inset m (slice_index_or (sides_of ps) k d) t.x t.y t.w) ts a.0 a.1
          (λ j b l. complete.members j b l k d i) a.2 a.3 a.4));
    }
  where
    same : (a b : ℤ) → a ≡ b → pos 0 <ℤ b → pos 0 <ℤ a
    same a b e p = omega (arith, ints, e, p)

keeps_if_strictly : (m : ℕ) (ps : List Point) (x y w : ℤ) → KeepsStrictly m ps x y w → KeepsAll m ps x y w
keeps_if_strictly m ps x y w h = All-weaker (λ s. pos 0 <ℤ inset m s x y w) (λ s. pos 0 ≤ℤ inset m s x y w)
    (λ s e. at_most (pos 0) (inset m s x y w) e) (sides_of ps) h

pub thin_without_corners : (m : ℕ) (ps : List Point) → 0 < length ps → IsConvex ps → IsComplete m ps []
    → IsThin m ps
thin_without_corners m ps some convex complete x y w p h =
    let keeps = keeps_if_strictly m ps x y w (strictly_from_inside m ps x y w p h) in
    let mean = generates m ps [] some convex complete x y w p (shrunk_from_keeps m ps x y w p keeps) in
    absurd (omega (arith, mean.3.1))

-- the inset of a mean
inset_mean : (m : ℕ) (s : Side) (x y w : ℤ) (a b c : Triple) (k l i j : ℤ)
    → k *ℤ x ≡ l *ℤ a.x +ℤ i *ℤ b.x +ℤ j *ℤ c.x → k *ℤ y ≡ l *ℤ a.y +ℤ i *ℤ b.y +ℤ j *ℤ c.y
    → k *ℤ w ≡ l *ℤ a.w +ℤ i *ℤ b.w +ℤ j *ℤ c.w → k *ℤ inset m s x y w ≡ l *ℤ inset m s a.x a.y a.w
    +ℤ i *ℤ inset m s b.x b.y b.w +ℤ j *ℤ inset m s c.x c.y c.w
inset_mean m s x y w a b c k l i j ex ey ew =
    sym (inset_times m s k x y w)
    ∙ ap (λ z. inset m s z (k *ℤ y) (k *ℤ w)) ex
    ∙ ap (λ z. inset m s (l *ℤ a.x +ℤ i *ℤ b.x +ℤ j *ℤ c.x) z (k *ℤ w)) ey
    ∙ ap (λ z. inset m s (l *ℤ a.x +ℤ i *ℤ b.x +ℤ j *ℤ c.x) (l *ℤ a.y +ℤ i *ℤ b.y +ℤ j *ℤ c.y) z) ew
    ∙ inset_add m s (l *ℤ a.x +ℤ i *ℤ b.x) (l *ℤ a.y +ℤ i *ℤ b.y) (l *ℤ a.w +ℤ i *ℤ b.w) (j *ℤ c.x) (j *ℤ c.y)
    (j *ℤ c.w)
    ∙ ap (λ z. z +ℤ inset m s (j *ℤ c.x) (j *ℤ c.y) (j *ℤ c.w))
    (inset_add m s (l *ℤ a.x) (l *ℤ a.y) (l *ℤ a.w) (i *ℤ b.x) (i *ℤ b.y) (i *ℤ b.w))
    ∙ ap (λ z. z +ℤ inset m s (i *ℤ b.x) (i *ℤ b.y) (i *ℤ b.w) +ℤ inset m s (j *ℤ c.x) (j *ℤ c.y) (j *ℤ c.w))
    (inset_times m s l a.x a.y a.w)
    ∙ ap (λ z. l *ℤ inset m s a.x a.y a.w +ℤ z +ℤ inset m s (j *ℤ c.x) (j *ℤ c.y) (j *ℤ c.w))
    (inset_times m s i b.x b.y b.w)
    ∙ ap (λ z. l *ℤ inset m s a.x a.y a.w +ℤ i *ℤ inset m s b.x b.y b.w +ℤ z) (inset_times m s j c.x c.y c.w)

pub thin_along_a_side : (m : ℕ) (ps : List Point) (ts : List Triple) → IsConvex ps → IsComplete m ps ts
    → (s : Side) → Contains (sides_of ps) s → All (λ (t : Triple). inset m s t.x t.y t.w ≡ pos 0) ts
    → IsThin m ps
thin_along_a_side m [] ts convex complete s at along x y w p h = absurd (omega (arith, at.1))
thin_along_a_side m (q ∷ qs) ts convex complete s at along x y w p h =
    let ps : List Point = q ∷ qs in
    let strictly = strictly_from_inside m ps x y w p h in
    let g = generates m ps ts (omega arith) convex complete x y w p
    (shrunk_from_keeps m ps x y w p (keeps_if_strictly m ps x y w strictly)) in
    let P = λ (t : Triple). inset m s t.x t.y t.w ≡ pos 0 in
    let mean = g.6 in
    none (pos mean.k) (inset m s x y w) (pos mean.l) (pos mean.m) (pos mean.n) _ _ _
    (inset_mean m s x y w g.0 g.1 g.2 (pos mean.k) (pos mean.l) (pos mean.m) (pos mean.n) mean.x_part
    mean.y_part mean.w_part) (All-contains P ts g.0 along g.3) (All-contains P ts g.1 along g.4)
    (All-contains P ts g.2 along g.5)
    (product_positive (pos mean.k) (inset m s x y w) (some mean.k mean.some)
    (All-contains (λ s. pos 0 <ℤ inset m s x y w) (sides_of ps) s strictly at))
  where
    some : (k : ℕ) → 0 < k → pos 0 <ℤ pos k
    some k h = omega (arith, ints)

    none : (k z l i j a b c : ℤ) → k *ℤ z ≡ l *ℤ a +ℤ i *ℤ b +ℤ j *ℤ c → a ≡ pos 0 → b ≡ pos 0 → c ≡ pos 0
        → pos 0 <ℤ (k *ℤ z) → ⊥
    none k z l i j a b c e f g h p = absurd (omega (arith, ints, p, nought k z l i j a b c e f g h))
      where
        nought : (k z l i j a b c : ℤ) → k *ℤ z ≡ l *ℤ a +ℤ i *ℤ b +ℤ j *ℤ c → a ≡ pos 0 → b ≡ pos 0
            → c ≡ pos 0 → k *ℤ z ≡ pos 0
        nought k z l i j a b c e f g h =
            rw (e, f, g, h) (by3 (λ l i j. l ⊗ whole 0 ⊕ i ⊗ whole 0 ⊕ j ⊗ whole 0 ⊜ whole 0) refl l i j)

-- ---- the panel lies within the box of its vertices
-- no flat point of the panel lies farther than all vertices in a direction
not_farther : (a b x y w : ℤ) (ps : List Point) → 0 < length ps → pos 0 <ℤ w → IsConvex ps → InPanel ps x y w
    → All (λ q. beyond a b x y w q <ℤ pos 0) ps → ⊥
not_farther a b x y w [] some p convex h behind = absurd (omega (arith, some))
not_farther a b x y w (q ∷ qs) some p convex h behind = not_beyond a b x y w q qs p convex h behind

-- every point of the panel lies within the box of the face's vertices
pub panel_near : (ps : List Point) → 0 < length ps → All IsNear ps → IsConvex ps → (x y w : ℤ) → pos 0 <ℤ w
    → InPanel ps x y w → (unsigned_abs x ≤ FARTHEST * unsigned_abs w)
    × (unsigned_abs y ≤ FARTHEST * unsigned_abs w)
panel_near ps some near convex x y w p h =
    let far : ℤ = pos FARTHEST in
    let no = λ (a b : ℤ) (behind : (q : Point) → IsNear q → beyond a b x y w q <ℤ pos 0).
    not_farther a b x y w ps some p convex h (All-weaker IsNear (λ q. beyond a b x y w q <ℤ pos 0) behind
    ps near) in (
      sized x w FARTHEST p
          (by_lt_z (far *ℤ w) x
          (λ over. absurd (no (pos 1) (pos 0) (λ q n. below_first w q.x x FARTHEST q.y y p n.x over))) (λ t. t))
          (by_lt_z x (neg_ℤ (far *ℤ w))
          (λ under. absurd (no (neg_ℤ (pos 1)) (pos 0) (λ q n. above_first w q.x x FARTHEST q.y y p n.x under)))
          (λ t. t)),
      sized y w FARTHEST p
          (by_lt_z (far *ℤ w) y
          (λ over. absurd (no (pos 0) (pos 1) (λ q n. below_second w q.y y FARTHEST q.x x p n.y over)))
          (λ t. t))
          (by_lt_z y (neg_ℤ (far *ℤ w))
          (λ under.
          absurd (no (pos 0) (neg_ℤ (pos 1)) (λ q n. above_second w q.y y FARTHEST q.x x p n.y under)))
          (λ t. t)),
    )
  where
    sized : (x w : ℤ) (n : ℕ) → pos 0 <ℤ w → x ≤ℤ (pos n *ℤ w) → neg_ℤ (pos n *ℤ w) ≤ℤ x
        → unsigned_abs x ≤ n * unsigned_abs w
    sized x (pos k) n p q r = omega (arith, ints, q, r)
    sized x (negsuc k) n p q r = absurd (omega (arith, ints, p))

    under_most : (w q x : ℤ) (n : ℕ) → pos 0 <ℤ w → unsigned_abs q ≤ n → (pos n *ℤ w) <ℤ x
        → (w *ℤ q -ℤ x) <ℤ pos 0
    under_most w q x n p e over =
        omega (
          arith,
          ints,
          over,
          mul_le_left w q (pos n) (at_most (pos 0) w p) (omega (arith, ints, e)),
          mul_comm_ℤ w (pos n),
        )

    over_least : (w q x : ℤ) (n : ℕ) → pos 0 <ℤ w → unsigned_abs q ≤ n → x <ℤ neg_ℤ (pos n *ℤ w)
        → pos 0 <ℤ (w *ℤ q -ℤ x)
    over_least w q x n p e under =
        omega (
          arith,
          ints,
          under,
          mul_le_left w (neg_ℤ (pos n)) q (at_most (pos 0) w p)
              (omega (arith, ints, e)),
          times_less w (pos n),
        )
      where
        times_less : (w n : ℤ) → w *ℤ neg_ℤ n ≡ neg_ℤ (n *ℤ w)
        times_less w n = by2 (λ w n. w ⊗ less n ⊜ less (n ⊗ w)) refl w n

    under_nought : (z a : ℤ) → z ≡ a → a <ℤ pos 0 → z <ℤ pos 0
    under_nought z a e h = omega (arith, ints, e, h)

    turned_nought : (z a : ℤ) → z ≡ neg_ℤ a → pos 0 <ℤ a → z <ℤ pos 0
    turned_nought z a e h = omega (arith, ints, e, h)

    below_first : (w q x : ℤ) (n : ℕ) (r y : ℤ) → pos 0 <ℤ w → unsigned_abs q ≤ n → (pos n *ℤ w) <ℤ x
        → (pos 1 *ℤ (w *ℤ q -ℤ x) +ℤ pos 0 *ℤ (w *ℤ r -ℤ y)) <ℤ pos 0
    below_first w q x n r y p e over =
        under_nought _ _ (by2 (λ a b. whole 1 ⊗ a ⊕ whole 0 ⊗ b ⊜ a) refl (w *ℤ q -ℤ x) (w *ℤ r -ℤ y))
        (under_most w q x n p e over)

    above_first : (w q x : ℤ) (n : ℕ) (r y : ℤ) → pos 0 <ℤ w → unsigned_abs q ≤ n → x <ℤ neg_ℤ (pos n *ℤ w)
        → (neg_ℤ (pos 1) *ℤ (w *ℤ q -ℤ x) +ℤ pos 0 *ℤ (w *ℤ r -ℤ y)) <ℤ pos 0
    above_first w q x n r y p e under =
        turned_nought _ _ (by2 (λ a b. less (whole 1) ⊗ a ⊕ whole 0 ⊗ b ⊜ less a) refl (w *ℤ q -ℤ x)
        (w *ℤ r -ℤ y)) (over_least w q x n p e under)

    below_second : (w q x : ℤ) (n : ℕ) (r y : ℤ) → pos 0 <ℤ w → unsigned_abs q ≤ n → (pos n *ℤ w) <ℤ x
        → (pos 0 *ℤ (w *ℤ r -ℤ y) +ℤ pos 1 *ℤ (w *ℤ q -ℤ x)) <ℤ pos 0
    below_second w q x n r y p e over =
        under_nought _ _ (by2 (λ a b. whole 0 ⊗ b ⊕ whole 1 ⊗ a ⊜ a) refl (w *ℤ q -ℤ x) (w *ℤ r -ℤ y))
        (under_most w q x n p e over)

    above_second : (w q x : ℤ) (n : ℕ) (r y : ℤ) → pos 0 <ℤ w → unsigned_abs q ≤ n → x <ℤ neg_ℤ (pos n *ℤ w)
        → (pos 0 *ℤ (w *ℤ r -ℤ y) +ℤ neg_ℤ (pos 1) *ℤ (w *ℤ q -ℤ x)) <ℤ pos 0
    above_second w q x n r y p e under =
        turned_nought _ _ (by2 (λ a b. whole 0 ⊗ b ⊕ less (whole 1) ⊗ a ⊜ less a) refl (w *ℤ q -ℤ x)
        (w *ℤ r -ℤ y)) (over_least w q x n p e under)
