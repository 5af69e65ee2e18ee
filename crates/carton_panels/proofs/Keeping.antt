-- Half planes of sides: with no margin they make up the panel.
use Rattle.std.proofs.Common.{◌≡◌, ℕ, List, get_or, refl, sym, ◌∙◌, ap, subst, ℤ, pos, ◌+ℤ◌, ◌-ℤ◌, ◌*ℤ◌, ◌≤ℤ◌}
use Rattle.std.proofs.Common.{unsigned_abs}
use Rattle.carton_base.specs.declared.dieline.Point.{Point}
use Rattle.carton_panels.specs.Panels.{Side, sides_of, leftness, InPanel}
use Rattle.carton_panels.specs.Insets.{IsInsetLine, KeepsAll, inset, line_a, line_e}
use Rattle.carton_base.proofs.Identities.{whole, ◌⊖◌, ◌⊗◌, ◌⊜◌, by3}
use Rattle.carton_panels.proofs.Insets.{inset_is}

-- the value of a line's form at a point is the point's inset
pub inset_from_line : (m : ℕ) (s : Side) (a b e x y w : ℤ) → IsInsetLine m s a b e
    → e *ℤ w -ℤ a *ℤ x -ℤ b *ℤ y ≡ inset m s x y w
inset_from_line m s a b e x y w h =
    ap (λ n. n *ℤ w -ℤ a *ℤ x -ℤ b *ℤ y) h.e_part ∙ ap (λ n. line_e m s *ℤ w -ℤ n *ℤ x -ℤ b *ℤ y) h.a_part
    ∙ ap (λ n. line_e m s *ℤ w -ℤ line_a s *ℤ x -ℤ n *ℤ y) h.b_part ∙ sym (inset_is m s x y w)

pub inset_no_margin : (s : Side) (x y w : ℤ) → inset 0 s x y w ≡ leftness s x y w
inset_no_margin s x y w =
    without (leftness s x y w)
    (pos (unsigned_abs (s.to.x -ℤ s.from.x)) +ℤ pos (unsigned_abs (s.to.y -ℤ s.from.y))) w
  where
    without : (l k w : ℤ) → l -ℤ (pos 0 *ℤ k) *ℤ w ≡ l
    without l k w = by3 (λ l k w. l ⊖ (whole 0 ⊗ k) ⊗ w ⊜ l) refl l k w

pub panel_from_keeps : (ps : List Point) (x y w : ℤ) → KeepsAll 0 ps x y w → InPanel ps x y w
panel_from_keeps ps x y w h =
    λ k d l. subst (λ n. pos 0 ≤ℤ n) (inset_no_margin (get_or (sides_of ps) k d) x y w) (h k d l)

pub keeps_from_panel : (ps : List Point) (x y w : ℤ) → InPanel ps x y w → KeepsAll 0 ps x y w
keeps_from_panel ps x y w h =
    λ k d l. subst (λ n. pos 0 ≤ℤ n) (sym (inset_no_margin (get_or (sides_of ps) k d) x y w)) (h k d l)
