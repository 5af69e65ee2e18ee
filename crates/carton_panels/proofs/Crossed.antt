-- Where the inset lines of two sides cross, as the code tells it; and points gathered from such crossings.
use Rattle.std.proofs.Common.{◌≡◌, ℕ, ◌+◌, ◌<◌, ◌⊎◌, inl, inr, List, [], ◌∷◌, ◌++◌, length, Option, Some}
use Rattle.std.proofs.Common.{None, get_or, refl, ◌∙◌, ap, subst, arith, below_more, ℤ, pos, neg_ℤ, ◌-ℤ◌}
use Rattle.std.proofs.Common.{◌*ℤ◌, ◌<ℤ◌}
use Rattle.carton_panels.proofs.Steps.{length-around}
use Rattle.std.specs.Prelude.{Any, Contains}
use Rattle.std.proofs.lemmas.Int.{ints}
use Rattle.std.proofs.lemmas.List.Elements.{All-push, Contains-push}
use Rattle.std.proofs.lemmas.List.Quantifiers.{all_pairs_push}
use Rattle.std.proofs.lemmas.List.{get_or_default}
use Rattle.carton_base.specs.declared.dieline.Point.{Point}
use Rattle.carton_base.specs.declared.numbers.Triple.{Triple}
use Rattle.carton_panels.specs.Panels.{Side, sides_of}
use Rattle.carton_panels.specs.Shrinking.{IsSamePoint}
use Rattle.carton_panels.specs.Insets.{IsInsetLine, KeepsAll, inset, line_a, line_b, line_e}
use Rattle.carton_model.specs.Points.{IsSmall}
use Rattle.carton_panels.specs.Crossings.{CoversPair, CoversRow, HasParts, IsCovered, IsCrossing}
use Rattle.carton_panels.specs.Crossings.{IsInsetCorner, IsGathered, IsPointOf, cross}
use Rattle.carton_panels.proofs.Insets.{cross_is, crossing_insets, crossing_x, crossing_y, crossing_w}
use Rattle.carton_panels.proofs.Pairs.{inset_less, covers}

inset_at_parts : (m : ℕ) (s : Side) (p : Triple) (x y w : ℤ) → HasParts p x y w → inset m s x y w ≡ pos 0
    → inset m s p.x p.y p.w ≡ pos 0
inset_at_parts m s p x y w h e = ap (λ n. inset m s n p.y p.w) h.x_part ∙ ap (λ n. inset m s x n p.w) h.y_part
    ∙ ap (λ n. inset m s x y n) h.w_part ∙ e

pub crossing_from_point : (m : ℕ) (s t : Side) (r : Option Triple)
    → IsPointOf (crossing_x m s t) (crossing_y m s t) (crossing_w s t) r → IsCrossing m s t r
crossing_from_point m s t None h = cross_is s t ∙ h
crossing_from_point m s t (Some p) h = let b = both h.1 in (h.0, b.0, b.1, λ e. some (h.1) e)
  where
    nonzero : (c w n : ℤ) → c ≡ w → n ≡ w → pos 0 <ℤ n → ¬ (c ≡ pos 0)
    nonzero c w n e f h z = absurd (omega (arith, ints, e, f, h, z))

    nonzero_turned : (c w n : ℤ) → c ≡ w → n ≡ neg_ℤ w → pos 0 <ℤ n → ¬ (c ≡ pos 0)
    nonzero_turned c w n e f h z = absurd (omega (arith, ints, e, f, h, z))

    some : HasParts p (crossing_x m s t) (crossing_y m s t) (crossing_w s t)
        ⊎ HasParts p (neg_ℤ (crossing_x m s t)) (neg_ℤ (crossing_y m s t)) (neg_ℤ (crossing_w s t))
        → ¬ (cross s t ≡ pos 0)
    some (inl q) = nonzero (cross s t) (crossing_w s t) p.w (cross_is s t) q.w_part p.positive
    some (inr q) = nonzero_turned (cross s t) (crossing_w s t) p.w (cross_is s t) q.w_part p.positive

    both : HasParts p (crossing_x m s t) (crossing_y m s t) (crossing_w s t)
        ⊎ HasParts p (neg_ℤ (crossing_x m s t)) (neg_ℤ (crossing_y m s t)) (neg_ℤ (crossing_w s t))
        → (inset m s p.x p.y p.w ≡ pos 0) × (inset m t p.x p.y p.w ≡ pos 0)
    both (inl q) = (
      inset_at_parts m s p _ _ _ q (crossing_insets m s t).0,
      inset_at_parts m t p _ _ _ q
          (crossing_insets m s t).1,
    )
    both (inr q) = (
      inset_at_parts m s p _ _ _ q (inset_less m s _ _ _ (crossing_insets m s t).0),
      inset_at_parts m t p _
          _ _ q (inset_less m t _ _ _ (crossing_insets m s t).1),
    )

-- the three determinants of two inset lines are the parts of their crossing
pub crossing_from_lines : (m : ℕ) (s t : Side) (r : Option Triple) (a b e c d f : ℤ) → IsInsetLine m s a b e
    → IsInsetLine m t c d f → IsPointOf (e *ℤ d -ℤ f *ℤ b) (f *ℤ a -ℤ e *ℤ c) (a *ℤ d -ℤ c *ℤ b) r
    → IsCrossing m s t r
crossing_from_lines m s t r a b e c d f h g p =
    let x : e *ℤ d -ℤ f *ℤ b ≡ crossing_x m s t = ap (λ n. n *ℤ d -ℤ f *ℤ b) h.e_part
    ∙ ap (λ n. line_e m s *ℤ n -ℤ f *ℤ b) g.b_part ∙ ap (λ n. line_e m s *ℤ line_b t -ℤ n *ℤ b) g.e_part
    ∙ ap (λ n. line_e m s *ℤ line_b t -ℤ line_e m t *ℤ n) h.b_part in
    let y : f *ℤ a -ℤ e *ℤ c ≡ crossing_y m s t = turned f a e c ∙ ap (λ n. n *ℤ f -ℤ c *ℤ e) h.a_part
    ∙ ap (λ n. line_a s *ℤ n -ℤ c *ℤ e) g.e_part ∙ ap (λ n. line_a s *ℤ line_e m t -ℤ n *ℤ e) g.a_part
    ∙ ap (λ n. line_a s *ℤ line_e m t -ℤ line_a t *ℤ n) h.e_part in
    let w : a *ℤ d -ℤ c *ℤ b ≡ crossing_w s t = ap (λ n. n *ℤ d -ℤ c *ℤ b) h.a_part
    ∙ ap (λ n. line_a s *ℤ n -ℤ c *ℤ b) g.b_part ∙ ap (λ n. line_a s *ℤ line_b t -ℤ n *ℤ b) g.a_part
    ∙ ap (λ n. line_a s *ℤ line_b t -ℤ line_a t *ℤ n) h.b_part in
    crossing_from_point m s t r (subst (λ n. IsPointOf (crossing_x m s t) (crossing_y m s t) n r) w
    (subst (λ n. IsPointOf (crossing_x m s t) n (a *ℤ d -ℤ c *ℤ b) r) y
    (subst (λ n. IsPointOf n (f *ℤ a -ℤ e *ℤ c) (a *ℤ d -ℤ c *ℤ b) r) x p)))
  where
    turned : (f a e c : ℤ) → f *ℤ a -ℤ e *ℤ c ≡ a *ℤ f -ℤ c *ℤ e
    turned f a e c = omega (arith, ints)

-- a new point that keeps all and is none of those found
pub gathered_more : (m : ℕ) (ps : List Point) (ts : List Triple) (t : Triple) → IsGathered m ps ts
    → KeepsAll m ps t.x t.y t.w → IsSmall t → IsInsetCorner m ps t → ¬ (Any (λ k. IsSamePoint k t) ts)
    → IsGathered m ps (ts ++ t ∷ [])
gathered_more m ps ts t g keeps small corner new = record {
  members = All-push (λ t. KeepsAll m ps t.x t.y t.w) ts t g.members keeps;
  once = all_pairs_push (λ a b. ¬ (IsSamePoint a b)) ts t g.once
      (λ k d h s. new (k, get_or ts k d, h, get_or_default ts k (get_or ts k d) d h, s));
  small = All-push IsSmall ts t g.small small;
  corners = All-push (IsInsetCorner m ps) ts t g.corners corner;
}

-- where the inset lines of two sides cross is a corner
pub corner_at : (m : ℕ) (ps : List Point) (i j : ℕ) (d : Side) (t : Triple) → i < length ps → j < length ps
    → IsCrossing m (get_or (sides_of ps) i d) (get_or (sides_of ps) j d) (Some t) → IsInsetCorner m ps t
corner_at m ps i j d t h l c =
    let hi : i < length (sides_of ps) = omega (arith, length-around ps, h) in
    let hj : j < length (sides_of ps) = omega (arith, length-around ps, l) in
    let s = get_or (sides_of ps) i d in
    let u = get_or (sides_of ps) j d in (
      i,
      s,
      hi,
      get_or_default (sides_of ps) i s d hi,
      (j, u, hj, get_or_default (sides_of ps) j u d hj, (c.3, c.1, c.2)),
    )

pub covered_by_push : (ts : List Triple) (t : Triple) → IsCovered (ts ++ t ∷ []) t.x t.y t.w
covered_by_push ts t = (t, Contains-push ts t, refl, refl)

pub covered_by_found : (ts : List Triple) (t : Triple) → Any (λ k. IsSamePoint k t) ts
    → IsCovered ts t.x t.y t.w
covered_by_found ts t a = (a.1, (a.0, a.2, a.3), a.4.0, a.4.1)

-- every member of the first list is one of the second
abbrev pub Grows : List Triple → List Triple → Type 0
Grows ts us = (k : Triple) → Contains ts k → Contains us k

pub covered_grows : (ts us : List Triple) → Grows ts us → (x y w : ℤ) → IsCovered ts x y w
    → IsCovered us x y w
covered_grows ts us g x y w k = (k.0, g k.0 k.1, k.2, k.3)

pub pair_grows : (m : ℕ) (ps : List Point) (ts us : List Triple) → Grows ts us → (s t : Side)
    → CoversPair m ps ts s t → CoversPair m ps us s t
pair_grows m ps ts us g s t h = λ n x y w p a b k. covered_grows ts us g x y w (h n x y w p a b k)

-- a crossing that is covered if it keeps all
pub pair_covered : (m : ℕ) (ps : List Point) (ts : List Triple) (s t : Side) (p : Triple)
    → IsCrossing m s t (Some p) → (KeepsAll m ps p.x p.y p.w → IsCovered ts p.x p.y p.w)
    → CoversPair m ps ts s t
pair_covered m ps ts s t p h covered = λ n x y w q a b k. covers m ps ts s t n p.x p.y p.w p.positive h.1 h.2
    covered x y w q a b k

-- one pair more in a row
pub row_more : (m : ℕ) (ps : List Point) (ts us : List Triple) (i j : ℕ) → Grows ts us → CoversRow m ps ts i j
    → ((d : Side) → CoversPair m ps us (get_or (sides_of ps) i d) (get_or (sides_of ps) j d))
    → CoversRow m ps us i (j + 1)
row_more m ps ts us i j g row pair = λ k d h l.
    below_more (λ k. (d : Side) → i < k
    → CoversPair m ps us (get_or (sides_of ps) i d) (get_or (sides_of ps) k d)) j
    (λ k l d h. pair_grows m ps ts us g (get_or (sides_of ps) i d) (get_or (sides_of ps) k d)
    (row k d h l)) (λ d h. pair d) k l d h

pub row_grows : (m : ℕ) (ps : List Point) (ts us : List Triple) (i n : ℕ) → Grows ts us
    → CoversRow m ps ts i n → CoversRow m ps us i n
row_grows m ps ts us i n g row =
    λ j d h l. pair_grows m ps ts us g (get_or (sides_of ps) i d) (get_or (sides_of ps) j d) (row j d h l)

pub gathered_none : (m : ℕ) (ps : List Point) → IsGathered m ps []
gathered_none m ps = record {
  members = λ k d h. absurd (omega (arith, h));
  once = λ i j d h l. absurd (omega (arith, l));
  small = λ k d h. absurd (omega (arith, h));
  corners = λ k d h. absurd (omega (arith, h));
}
