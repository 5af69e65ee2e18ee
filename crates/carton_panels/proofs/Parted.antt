-- A direction parts two shrunk panels exactly where it parts their corners.
use Rattle.std.proofs.Common.{◌≡◌, ℕ, ◌+◌, ◌<◌, ◌≤◌, inl, inr, List, length, get_or, refl, sym, ◌∙◌, ap}
use Rattle.std.proofs.Common.{subst, arith, ℤ, pos, negsuc, neg_ℤ, ◌+ℤ◌, ◌-ℤ◌, ◌*ℤ◌, ◌≤ℤ◌, ◌<ℤ◌}
use Rattle.std.specs.Prelude.{All, Contains}
use Rattle.std.proofs.lemmas.Int.{ints, by_lt_z}
use Rattle.std.proofs.lemmas.List.Elements.{All-contains, All-weaker}
use Rattle.carton_base.specs.declared.numbers.Triple.{Triple}
use Rattle.std.proofs.lemmas.Bool.{cases_lt}
use Rattle.std.proofs.Math.Nat.{mul-le-mul_left}
use Rattle.carton_model.specs.Parting.{Position, along, IsFarther, PartsBy}
use Rattle.carton_model.specs.Turning.{laid}
use Rattle.carton_panels.specs.Shrinking.{IsMean, IsMeanOf}
use Rattle.carton_panels.specs.Shapes.{Shape, IsShape}
use Rattle.carton_panels.specs.Flat.{IsFlat}
use Rattle.carton_base.proofs.Identities.{whole, less, ◌⊕◌, ◌⊖◌, ◌⊗◌, ◌⊜◌, by2, by3, by4, by7, by8, by12}
use Rattle.carton_panels.proofs.Ratios.{product_positive, mul_le_left}

-- a linear form
abbrev pub form : ℤ → ℤ → ℤ → ℤ → ℤ → ℤ → ℤ
form a b c x y w = a *ℤ x +ℤ b *ℤ y +ℤ c *ℤ w

-- one coordinate of a sum of multiples
weighed : (g z k l m n p q r : ℤ) → k *ℤ z ≡ l *ℤ p +ℤ m *ℤ q +ℤ n *ℤ r
    → k *ℤ (g *ℤ z) ≡ l *ℤ (g *ℤ p) +ℤ m *ℤ (g *ℤ q) +ℤ n *ℤ (g *ℤ r)
weighed g z k l m n p q r e = by3 (λ k g z. k ⊗ (g ⊗ z) ⊜ g ⊗ (k ⊗ z)) refl k g z ∙ ap (λ t. g *ℤ t) e
    ∙ by7 (λ g l m n p q r. g ⊗ (l ⊗ p ⊕ m ⊗ q ⊕ n ⊗ r) ⊜ l ⊗ (g ⊗ p) ⊕ m ⊗ (g ⊗ q) ⊕ n ⊗ (g ⊗ r)) refl g l m
    n p q r

-- a linear form at a mean is the sum of its values
pub form_at_mean : (g h i x y w : ℤ) (a b c : Triple) (mean : IsMean x y w a b c)
    → pos mean.k *ℤ form g h i x y w ≡ pos mean.l *ℤ form g h i a.x a.y a.w
    +ℤ pos mean.m *ℤ form g h i b.x b.y b.w +ℤ pos mean.n *ℤ form g h i c.x c.y c.w
form_at_mean g h i x y w a b c mean =
    let k = pos mean.k in
    let l = pos mean.l in
    let m = pos mean.m in
    let n = pos mean.n in
    spread k (g *ℤ x) (h *ℤ y) (i *ℤ w)
    ∙ ap (λ t. t +ℤ k *ℤ (h *ℤ y) +ℤ k *ℤ (i *ℤ w)) (weighed g x k l m n a.x b.x c.x mean.x_part)
    ∙ ap (λ t. l *ℤ (g *ℤ a.x) +ℤ m *ℤ (g *ℤ b.x) +ℤ n *ℤ (g *ℤ c.x) +ℤ t +ℤ k *ℤ (i *ℤ w))
    (weighed h y k l m n a.y b.y c.y mean.y_part)
    ∙ ap (λ t. l *ℤ (g *ℤ a.x) +ℤ m *ℤ (g *ℤ b.x) +ℤ n *ℤ (g *ℤ c.x)
    +ℤ (l *ℤ (h *ℤ a.y) +ℤ m *ℤ (h *ℤ b.y) +ℤ n *ℤ (h *ℤ c.y)) +ℤ t)
    (weighed i w k l m n a.w b.w c.w mean.w_part)
    ∙ by12 (λ l m n p q r s t u v o z. l ⊗ p ⊕ m ⊗ q ⊕ n ⊗ r ⊕ (l ⊗ s ⊕ m ⊗ t ⊕ n ⊗ u)
    ⊕ (l ⊗ v ⊕ m ⊗ o ⊕ n ⊗ z) ⊜ l ⊗ (p ⊕ s ⊕ v) ⊕ m ⊗ (q ⊕ t ⊕ o) ⊕ n ⊗ (r ⊕ u ⊕ z)) refl l m n (g *ℤ a.x)
    (g *ℤ b.x) (g *ℤ c.x) (h *ℤ a.y) (h *ℤ b.y) (h *ℤ c.y) (i *ℤ a.w) (i *ℤ b.w) (i *ℤ c.w)
  where
    spread : (k p q r : ℤ) → k *ℤ (p +ℤ q +ℤ r) ≡ k *ℤ p +ℤ k *ℤ q +ℤ k *ℤ r
    spread k p q r = by4 (λ k p q r. k ⊗ (p ⊕ q ⊕ r) ⊜ k ⊗ p ⊕ k ⊗ q ⊕ k ⊗ r) refl k p q r

-- a whole multiple of a positive number is at least the multiplier
multiple : (l : ℕ) (z : ℤ) → pos 0 <ℤ z → pos l ≤ℤ (pos l *ℤ z)
multiple l (pos n) p = let h : 1 ≤ n = omega (arith, ints, p) in omega (arith, ints, mul-le-mul_left l h)
multiple l (negsuc n) p = absurd (omega (arith, ints, p))

-- some multiplier of a mean isn't 0
some_part : (x y w : ℤ) (a b c : Triple) (mean : IsMean x y w a b c) → pos 0 <ℤ w
    → 0 < mean.l + mean.m + mean.n
some_part x y w a b c mean p = elim (cases_lt 0 (mean.l + mean.m + mean.n)) [
  | inl h ↦ h
  | inr h ↦
      let l : mean.l ≡ 0 = omega arith in
      let m : mean.m ≡ 0 = omega arith in
      let n : mean.n ≡ 0 = omega arith in
      let k : pos 0 <ℤ pos mean.k = omega (arith, ints, mean.some) in
      let nothing : pos mean.k *ℤ w ≡ pos 0 = mean.w_part
      ∙ ap (λ l. pos l *ℤ a.w +ℤ pos mean.m *ℤ b.w +ℤ pos mean.n *ℤ c.w) l
      ∙ ap (λ m. pos 0 *ℤ a.w +ℤ pos m *ℤ b.w +ℤ pos mean.n *ℤ c.w) m
      ∙ ap (λ n. pos 0 *ℤ a.w +ℤ pos 0 *ℤ b.w +ℤ pos n *ℤ c.w) n
      ∙ by3 (λ p q r. whole 0 ⊗ p ⊕ whole 0 ⊗ q ⊕ whole 0 ⊗ r ⊜ whole 0) refl a.w b.w c.w in
      absurd (omega (arith, ints, product_positive (pos mean.k) w k p, nothing))
]

-- a sum of whole multiples of positive numbers is positive, if one multiplier isn't 0
sum_positive : (l m n : ℕ) (p q r : ℤ) → 0 < l + m + n → pos 0 <ℤ p → pos 0 <ℤ q → pos 0 <ℤ r
    → pos 0 <ℤ (pos l *ℤ p +ℤ pos m *ℤ q +ℤ pos n *ℤ r)
sum_positive l m n p q r h a b c = omega (arith, ints, h, multiple l p a, multiple m q b, multiple n r c)

-- a positive number has only positive factors beside a positive one
factor_positive : (k : ℕ) (z s : ℤ) → pos k *ℤ z ≡ s → pos 0 <ℤ s → pos 0 <ℤ z
factor_positive k z s e p =
    by_lt_z (pos 0) z (λ h. h)
    (λ h. absurd (omega (arith, ints, e, p, mul_le_left (pos k) z (pos 0) (omega (arith, ints)) h)))

-- a linear form that is positive at three points is so at their means
pub form_positive : (g h i x y w : ℤ) (a b c : Triple) → pos 0 <ℤ w → IsMean x y w a b c
    → pos 0 <ℤ form g h i a.x a.y a.w → pos 0 <ℤ form g h i b.x b.y b.w → pos 0 <ℤ form g h i c.x c.y c.w
    → pos 0 <ℤ form g h i x y w
form_positive g h i x y w a b c p mean at_a at_b at_c =
    factor_positive mean.k (form g h i x y w)
    (pos mean.l *ℤ form g h i a.x a.y a.w +ℤ pos mean.m *ℤ form g h i b.x b.y b.w
    +ℤ pos mean.n *ℤ form g h i c.x c.y c.w) (form_at_mean g h i x y w a b c mean)
    (sum_positive mean.l mean.m mean.n (form g h i a.x a.y a.w) (form g h i b.x b.y b.w)
    (form g h i c.x c.y c.w) (some_part x y w a b c mean p) at_a at_b at_c)

-- so it is positive at all means of points where it is
pub form_positive_at : (g h i x y w : ℤ) (ts : List Triple) → pos 0 <ℤ w
    → All (λ (t : Triple). pos 0 <ℤ form g h i t.x t.y t.w) ts → IsMeanOf ts x y w → pos 0 <ℤ form g h i x y w
form_positive_at g h i x y w ts p all mean =
    let at : (t : Triple) → Contains ts t → pos 0 <ℤ form g h i t.x t.y t.w =
    λ t. All-contains (λ (t : Triple). pos 0 <ℤ form g h i t.x t.y t.w) ts t all in
    form_positive g h i x y w mean.0 mean.1 mean.2 p mean.6 (at mean.0 mean.3) (at mean.1 mean.4)
    (at mean.2 mean.5)

-- how much farther (x'/w', y'/w') lies than (x/w, y/w), as a form of the first and of the second
gap_first : (u v x y w x' y' w' : ℤ) → form (neg_ℤ (u *ℤ w')) (neg_ℤ (v *ℤ w')) (u *ℤ x' +ℤ v *ℤ y') x y w
    ≡ (u *ℤ x' +ℤ v *ℤ y') *ℤ w -ℤ (u *ℤ x +ℤ v *ℤ y) *ℤ w'
gap_first u v x y w x' y' w' =
    by8 (λ u v x y w p q r. less (u ⊗ r) ⊗ x ⊕ less (v ⊗ r) ⊗ y ⊕ (u ⊗ p ⊕ v ⊗ q) ⊗ w ⊜ (u ⊗ p ⊕ v ⊗ q) ⊗ w
    ⊖ (u ⊗ x ⊕ v ⊗ y) ⊗ r) refl u v x y w x' y' w'

gap_second : (u v x y w x' y' w' : ℤ) → form (u *ℤ w) (v *ℤ w) (neg_ℤ (u *ℤ x +ℤ v *ℤ y)) x' y' w'
    ≡ (u *ℤ x' +ℤ v *ℤ y') *ℤ w -ℤ (u *ℤ x +ℤ v *ℤ y) *ℤ w'
gap_second u v x y w x' y' w' =
    by8 (λ u v x y w p q r. (u ⊗ w) ⊗ p ⊕ (v ⊗ w) ⊗ q ⊕ less (u ⊗ x ⊕ v ⊗ y) ⊗ r ⊜ (u ⊗ p ⊕ v ⊗ q) ⊗ w
    ⊖ (u ⊗ x ⊕ v ⊗ y) ⊗ r) refl u v x y w x' y' w'

under : (a b z : ℤ) → z ≡ b -ℤ a → pos 0 <ℤ z → a <ℤ b
under a b z e p = omega (arith, ints, e, p)

over : (a b z : ℤ) → z ≡ b -ℤ a → a <ℤ b → pos 0 <ℤ z
over a b z e p = omega (arith, ints, e, p)

-- (x/w, y/w) lies less far along (u, v) than (x'/w', y'/w')
abbrev pub IsLess : ℤ → ℤ → ℤ → ℤ → ℤ → ℤ → ℤ → ℤ → Type 0
IsLess u v x y w x' y' w' = ((u *ℤ x +ℤ v *ℤ y) *ℤ w') <ℤ ((u *ℤ x' +ℤ v *ℤ y') *ℤ w)

-- from the corners of the first panel to its points
less_of_first : (u v x y w : ℤ) (ts : List Triple) (q : Triple) → pos 0 <ℤ w
    → All (λ (p : Triple). IsLess u v p.x p.y p.w q.x q.y q.w) ts → IsMeanOf ts x y w
    → IsLess u v x y w q.x q.y q.w
less_of_first u v x y w ts q p all mean =
    let g = neg_ℤ (u *ℤ q.w) in
    let h = neg_ℤ (v *ℤ q.w) in
    let i = u *ℤ q.x +ℤ v *ℤ q.y in
    under _ _ _ (gap_first u v x y w q.x q.y q.w)
    (form_positive_at g h i x y w ts p (All-weaker (λ (p : Triple). IsLess u v p.x p.y p.w q.x q.y q.w)
    (λ (t : Triple). pos 0 <ℤ form g h i t.x t.y t.w)
    (λ t l. over _ _ _ (gap_first u v t.x t.y t.w q.x q.y q.w) l) ts all) mean)

-- and from the corners of the second to its points
less_of_second : (u v x y w x' y' w' : ℤ) (us : List Triple) → pos 0 <ℤ w'
    → All (λ (q : Triple). IsLess u v x y w q.x q.y q.w) us → IsMeanOf us x' y' w' → IsLess u v x y w x' y' w'
less_of_second u v x y w x' y' w' us p all mean =
    let g = u *ℤ w in
    let h = v *ℤ w in
    let i = neg_ℤ (u *ℤ x +ℤ v *ℤ y) in
    under _ _ _ (gap_second u v x y w x' y' w')
    (form_positive_at g h i x' y' w' us p (All-weaker (λ (q : Triple). IsLess u v x y w q.x q.y q.w)
    (λ (t : Triple). pos 0 <ℤ form g h i t.x t.y t.w)
    (λ t l. over _ _ _ (gap_second u v x y w t.x t.y t.w) l) us all) mean)

-- at height 0 the third part of a direction counts for nothing
pub along_level : (u v t : ℤ) (p : Position) → p.z ≡ pos 0 → along u v t p ≡ u *ℤ p.x +ℤ v *ℤ p.y
along_level u v t p e = ap (λ z. u *ℤ p.x +ℤ v *ℤ p.y +ℤ t *ℤ z) e
    ∙ by2 (λ s t. s ⊕ t ⊗ whole 0 ⊜ s) refl (u *ℤ p.x +ℤ v *ℤ p.y) t

-- a gap of 0 counts for nothing
pub with_gap : (x y z : ℤ) → x <ℤ y → (x +ℤ pos 0 *ℤ z) <ℤ y
with_gap x y z h = omega (arith, ints, h, by2 (λ x z. x ⊕ whole 0 ⊗ z ⊜ x) refl x z)

pub no_gap : (x y z : ℤ) → (x +ℤ pos 0 *ℤ z) <ℤ y → x <ℤ y
no_gap x y z h = omega (arith, ints, h, by2 (λ x z. x ⊕ whole 0 ⊗ z ⊜ x) refl x z)

pub farther_from_less : (u v t : ℤ) (p q : Position) → p.z ≡ pos 0 → q.z ≡ pos 0
    → IsLess u v p.x p.y p.w q.x q.y q.w → IsFarther (pos 0) u v t p q
farther_from_less u v t p q a b h = with_gap (along u v t p *ℤ q.w) (along u v t q *ℤ p.w) (p.w *ℤ q.w)
    (subst (λ n. (n *ℤ q.w) <ℤ (along u v t q *ℤ p.w)) (sym (along_level u v t p a))
    (subst (λ n. ((u *ℤ p.x +ℤ v *ℤ p.y) *ℤ q.w) <ℤ (n *ℤ p.w)) (sym (along_level u v t q b)) h))

pub less_from_farther : (u v t : ℤ) (p q : Position) → p.z ≡ pos 0 → q.z ≡ pos 0 → IsFarther (pos 0) u v t p q
    → IsLess u v p.x p.y p.w q.x q.y q.w
less_from_farther u v t p q a b h =
    subst (λ n. ((u *ℤ p.x +ℤ v *ℤ p.y) *ℤ q.w) <ℤ (n *ℤ p.w)) (along_level u v t q b)
    (subst (λ n. (n *ℤ q.w) <ℤ (along u v t q *ℤ p.w)) (along_level u v t p a)
    (no_gap (along u v t p *ℤ q.w) (along u v t q *ℤ p.w) (p.w *ℤ q.w) h))

-- the second flat point lies farther along (u, v) than the first
abbrev pub IsFlatFarther : ℤ → ℤ → Triple → Triple → Type 0
IsFlatFarther u v p q = IsFarther (pos 0) u v (pos 0) (laid p) (laid q)

-- the corners of two panels are parted along (u, v)
abbrev pub CornersParted : ℤ → ℤ → List Triple → List Triple → Type 0
CornersParted u v ts us = All (λ p. All (IsFlatFarther u v p) us) ts

pub parts_from_corners : (u v t : ℤ) (a b : Shape) → IsShape a → IsShape b
    → CornersParted u v a.shrunk b.shrunk
    → PartsBy (pos 0) u v t (IsFlat a.margin a.places) (IsFlat b.margin b.places)
parts_from_corners u v t a b sa sb corners = λ p q f g.
    let mean = sa.generates p.x p.y p.w f.positive f.inside in
    let mean' = sb.generates q.x q.y q.w g.positive g.inside in
    let less = λ (k : ℕ) (d : Triple) (l : k < length b.shrunk) (j : ℕ) (e : Triple)
    (i : j < length a.shrunk). less_from_farther u v (pos 0) (laid (get_or a.shrunk j e))
    (laid (get_or b.shrunk k d)) refl refl (corners j e i k d l) in
    farther_from_less u v t p q f.level g.level
    (less_of_second u v p.x p.y p.w q.x q.y q.w b.shrunk g.positive
    (λ k d l. less_of_first u v p.x p.y p.w a.shrunk (get_or b.shrunk k d) f.positive (less k d l) mean)
    mean')

pub corners_from_parts : (u v t : ℤ) (a b : Shape) → IsShape a → IsShape b
    → PartsBy (pos 0) u v t (IsFlat a.margin a.places) (IsFlat b.margin b.places)
    → CornersParted u v a.shrunk b.shrunk
corners_from_parts u v t a b sa sb parts = λ j e i k d l.
    let p = laid (get_or a.shrunk j e) in
    let q = laid (get_or b.shrunk k d) in
    let first : IsFlat a.margin a.places p = record {
      positive = (get_or a.shrunk j e).positive;
      level = refl;
      inside = sa.members j e i;
    } in
    let second : IsFlat b.margin b.places q = record {
      positive = (get_or b.shrunk k d).positive;
      level = refl;
      inside = sb.members k d l;
    } in
    farther_from_less u v (pos 0) p q refl refl
    (less_from_farther u v t p q refl refl (parts p q first second))

-- the same along a heading whose parts are told
pub parted_at : (u v u' v' : ℤ) (ts us : List Triple) → u ≡ u' → v ≡ v' → CornersParted u v ts us
    → CornersParted u' v' ts us
parted_at u v u' v' ts us e f h =
    subst (λ v. CornersParted u' v ts us) f (subst (λ u. CornersParted u v ts us) e h)
