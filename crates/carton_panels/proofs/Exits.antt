-- From a flat point that keeps all inset inequalities, the way in a direction to the first inset line.
use Rattle.std.proofs.Common.{◌≡◌, ℕ, ℤ, pos, neg_ℤ, ◌+ℤ◌, ◌-ℤ◌, ◌*ℤ◌, ◌≤ℤ◌, ◌<ℤ◌, ◌<◌, arith, refl, inl, inr}
use Rattle.std.proofs.Common.{unsigned_abs, List, length, Contains}
use Rattle.std.proofs.lemmas.Int.{ints}
use Rattle.std.proofs.lemmas.List.Elements.{All-weaker, All-contains}
use Rattle.carton_base.specs.declared.dieline.Point.{Point}
use Rattle.carton_panels.specs.Panels.{Side, sides_of, IsConvex}
use Rattle.carton_base.proofs.Identities.{whole, less, ◌⊕◌, ◌⊖◌, ◌⊗◌, ◌⊜◌, by2, by4, by6, by8, by9, by11}
use Rattle.carton_base.proofs.Identities.{by12}
use Rattle.carton_panels.specs.Insets.{KeepsAll, inset}
use Rattle.carton_panels.specs.Crossings.{cross}
use Rattle.carton_panels.proofs.Ratios.{least_ratio}
use Rattle.carton_panels.proofs.Chains.{rise, Moves, some_rises}

abbrev margin_part : ℕ → Side → ℤ
margin_part m s =
    pos m *ℤ (pos (unsigned_abs (s.to.x -ℤ s.from.x)) +ℤ pos (unsigned_abs (s.to.y -ℤ s.from.y)))

-- the inset of n times a point and r times a direction
pub inset_along : (m : ℕ) (s : Side) (n r x y w u v : ℤ)
    → inset m s (n *ℤ x +ℤ r *ℤ u) (n *ℤ y +ℤ r *ℤ v) (n *ℤ w) ≡ n *ℤ inset m s x y w -ℤ r *ℤ rise s u v
inset_along m s n r x y w u v =
    by12 (λ fx fy tx ty k n r x y w u v. (tx ⊖ fx) ⊗ ((n ⊗ y ⊕ r ⊗ v) ⊖ fy ⊗ (n ⊗ w))
    ⊖ (ty ⊖ fy) ⊗ ((n ⊗ x ⊕ r ⊗ u) ⊖ fx ⊗ (n ⊗ w)) ⊖ k ⊗ (n ⊗ w)
    ⊜ n ⊗ ((tx ⊖ fx) ⊗ (y ⊖ fy ⊗ w) ⊖ (ty ⊖ fy) ⊗ (x ⊖ fx ⊗ w) ⊖ k ⊗ w) ⊖ r ⊗ ((ty ⊖ fy) ⊗ u ⊕ (fx ⊖ tx) ⊗ v))
    refl s.from.x s.from.y s.to.x s.to.y (margin_part m s) n r x y w u v

pub inset_add : (m : ℕ) (s : Side) (x y w p q r : ℤ) → inset m s (x +ℤ p) (y +ℤ q) (w +ℤ r)
    ≡ inset m s x y w +ℤ inset m s p q r
inset_add m s x y w p q r =
    by11 (λ fx fy tx ty k x y w p q r. (tx ⊖ fx) ⊗ ((y ⊕ q) ⊖ fy ⊗ (w ⊕ r))
    ⊖ (ty ⊖ fy) ⊗ ((x ⊕ p) ⊖ fx ⊗ (w ⊕ r)) ⊖ k ⊗ (w ⊕ r)
    ⊜ ((tx ⊖ fx) ⊗ (y ⊖ fy ⊗ w) ⊖ (ty ⊖ fy) ⊗ (x ⊖ fx ⊗ w) ⊖ k ⊗ w)
    ⊕ ((tx ⊖ fx) ⊗ (q ⊖ fy ⊗ r) ⊖ (ty ⊖ fy) ⊗ (p ⊖ fx ⊗ r) ⊖ k ⊗ r)) refl s.from.x s.from.y s.to.x s.to.y
    (margin_part m s) x y w p q r

pub inset_times : (m : ℕ) (s : Side) (n x y w : ℤ) → inset m s (n *ℤ x) (n *ℤ y) (n *ℤ w)
    ≡ n *ℤ inset m s x y w
inset_times m s n x y w =
    by9 (λ fx fy tx ty k n x y w. (tx ⊖ fx) ⊗ (n ⊗ y ⊖ fy ⊗ (n ⊗ w)) ⊖ (ty ⊖ fy) ⊗ (n ⊗ x ⊖ fx ⊗ (n ⊗ w))
    ⊖ k ⊗ (n ⊗ w) ⊜ n ⊗ ((tx ⊖ fx) ⊗ (y ⊖ fy ⊗ w) ⊖ (ty ⊖ fy) ⊗ (x ⊖ fx ⊗ w) ⊖ k ⊗ w)) refl s.from.x s.from.y
    s.to.x s.to.y (margin_part m s) n x y w

-- the side's own direction
abbrev pub run_x : Side → ℤ
run_x s = s.to.x -ℤ s.from.x

abbrev pub run_y : Side → ℤ
run_y s = s.to.y -ℤ s.from.y

pub rise_run : (s t : Side) → rise t (run_x s) (run_y s) ≡ cross s t
rise_run s t =
    by8 (λ fx fy tx ty gx gy ux uy. (uy ⊖ gy) ⊗ (tx ⊖ fx) ⊕ (gx ⊖ ux) ⊗ (ty ⊖ fy) ⊜ (tx ⊖ fx) ⊗ (uy ⊖ gy)
    ⊖ (ty ⊖ fy) ⊗ (ux ⊖ gx)) refl s.from.x s.from.y s.to.x s.to.y t.from.x t.from.y t.to.x t.to.y

pub rise_back : (s t : Side) → rise t (neg_ℤ (run_x s)) (neg_ℤ (run_y s)) ≡ neg_ℤ (cross s t)
rise_back s t =
    by8 (λ fx fy tx ty gx gy ux uy. (uy ⊖ gy) ⊗ less (tx ⊖ fx) ⊕ (gx ⊖ ux) ⊗ less (ty ⊖ fy)
    ⊜ less ((tx ⊖ fx) ⊗ (uy ⊖ gy) ⊖ (ty ⊖ fy) ⊗ (ux ⊖ gx))) refl s.from.x s.from.y s.to.x s.to.y t.from.x
    t.from.y t.to.x t.to.y

pub rise_itself : (s : Side) → (rise s (run_x s) (run_y s) ≡ pos 0)
    × (rise s (neg_ℤ (run_x s)) (neg_ℤ (run_y s)) ≡ pos 0)
rise_itself s = (
  by4 (λ fx fy tx ty. (ty ⊖ fy) ⊗ (tx ⊖ fx) ⊕ (fx ⊖ tx) ⊗ (ty ⊖ fy) ⊜ whole 0) refl s.from.x s.from.y
      s.to.x s.to.y,
  by4 (λ fx fy tx ty. (ty ⊖ fy) ⊗ less (tx ⊖ fx) ⊕ (fx ⊖ tx) ⊗ less (ty ⊖ fy) ⊜ whole 0) refl
      s.from.x s.from.y s.to.x s.to.y,
)

-- a side over which a direction leads out has a length
pub side_moves : (s : Side) (u v : ℤ) → pos 0 <ℤ rise s u v → Moves (run_x s) (run_y s)
side_moves s u v h z =
    still _ _ _ u v (by6 (λ fx fy tx ty u v. (ty ⊖ fy) ⊗ u ⊕ (fx ⊖ tx) ⊗ v ⊜ (ty ⊖ fy) ⊗ u ⊖ (tx ⊖ fx) ⊗ v)
    refl s.from.x s.from.y s.to.x s.to.y u v) z.0 z.1 h
  where
    still : (r dx dy u v : ℤ) → r ≡ dy *ℤ u -ℤ dx *ℤ v → dx ≡ pos 0 → dy ≡ pos 0 → pos 0 <ℤ r → ⊥
    still r dx dy u v e f g h = absurd (omega (arith, ints, h, nought r dx dy u v e f g))
      where
        nought : (r dx dy u v : ℤ) → r ≡ dy *ℤ u -ℤ dx *ℤ v → dx ≡ pos 0 → dy ≡ pos 0 → r ≡ pos 0
        nought r dx dy u v e f g = rw (e, f, g) (by2 (λ u v. whole 0 ⊗ u ⊖ whole 0 ⊗ v ⊜ whole 0) refl u v)

-- where the way from (x/w, y/w) in the direction (u, v) meets the first inset line
pub record Exit (m : ℕ) (ps : List Point) (x y w u v : ℤ) : Type 0 where
  pub side : Side
  pub at : Contains (sides_of ps) side
  pub rises : pos 0 <ℤ rise side u v
  pub room : pos 0 ≤ℤ inset m side x y w
  pub keeps : KeepsAll m ps (rise side u v *ℤ x +ℤ inset m side x y w *ℤ u)
      (rise side u v *ℤ y +ℤ inset m side x y w *ℤ v) (rise side u v *ℤ w)
  pub tight : inset m side (rise side u v *ℤ x +ℤ inset m side x y w *ℤ u) (rise side u v *ℤ y
      +ℤ inset m side x y w *ℤ v) (rise side u v *ℤ w) ≡ pos 0

pub exit : (m : ℕ) (ps : List Point) (x y w u v : ℤ) → 0 < length ps → IsConvex ps → Moves u v
    → KeepsAll m ps x y w → Exit m ps x y w u v
exit m ps x y w u v some convex moves keeps =
    elim (least_ratio (λ s. inset m s x y w) (λ s. rise s u v) (sides_of ps) keeps) [
      | inl none ↦ absurd (some_rises u v ps some moves convex none)
      | inr l ↦ record {
        side = l.least;
        at = l.at;
        rises = l.rises;
        room = All-contains (λ s. pos 0 ≤ℤ inset m s x y w) (sides_of ps) l.least keeps l.at;
        keeps = All-weaker (λ s. (rise s u v *ℤ inset m l.least x y w) ≤ℤ (rise l.least u v *ℤ inset m s x y w))
            (λ s. pos 0 ≤ℤ inset m s (rise l.least u v *ℤ x +ℤ inset m l.least x y w *ℤ u) (rise l.least u v *ℤ y
            +ℤ inset m l.least x y w *ℤ v) (rise l.least u v *ℤ w))
            (λ s e. kept _ (rise l.least u v) (inset m s x y w) (inset m l.least x y w) (rise s u v)
            (inset_along m s (rise l.least u v) (inset m l.least x y w) x y w u v) e) (sides_of ps) l.first;
        tight =
            met _ (rise l.least u v) (inset m l.least x y w)
            (inset_along m l.least (rise l.least u v) (inset m l.least x y w) x y w u v);
      }
    ]
  where
    kept : (z n t r d : ℤ) → z ≡ n *ℤ t -ℤ r *ℤ d → (d *ℤ r) ≤ℤ (n *ℤ t) → pos 0 ≤ℤ z
    kept z n t r d e h = omega (arith, ints, e, h)

    met : (z n r : ℤ) → z ≡ n *ℤ r -ℤ r *ℤ n → z ≡ pos 0
    met z n r e = omega (arith, ints, e)
