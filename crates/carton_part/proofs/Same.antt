-- Panels that are parted in one of two same cartons are so in the other, whatever the order of their shrunk
-- corners.
use Rattle.std.proofs.Common.{◌≡◌, ℕ, ◌<◌, List, length, sym, subst, arith, ℤ}
use Rattle.carton_model.specs.HalfTurns.{Fold}
use Rattle.carton_model.specs.Parting.{Position}
use Rattle.carton_panels.specs.Shapes.{Shape}
use Rattle.carton_panels.specs.Shrinking.{InShrunk}
use Rattle.carton_tree.specs.Same.{IsSamePanel, AreSame}
use Rattle.carton_tree.specs.Trees.{Tree, turns_between, parting}
use Rattle.carton_reach.specs.Spots.{no_shape, shape_at}
use Rattle.carton_part.specs.Frames.{IsFrame}
use Rattle.carton_part.specs.Parted.{AreAllParted}
use Rattle.carton_part.specs.Points.{IsPointOf}

-- the carton u with other shapes
abbrev with_shapes : List Shape → Tree → Tree
with_shapes shapes u = record u { panels = shapes }

frame_in : (shapes : List Shape) (u : Tree) (a b f : ℕ) → IsFrame (with_shapes shapes u) a b f
    → IsFrame u a b f
unfolding turns_between parting
frame_in shapes u a b f h =
    record { way = record { above = h.way.above; below = h.way.below }; near_a = h.near_a; near_b = h.near_b }

point_in : (shapes : List Shape) (u : Tree) (folds : ℕ → Fold) (p f : ℕ) (q : Position)
    → IsSamePanel (with_shapes shapes u) u p → IsPointOf u folds p f q
    → IsPointOf (with_shapes shapes u) folds p f q
unfolding turns_between parting
point_in shapes u folds p f q same h = record {
  x = h.x;
  y = h.y;
  w = h.w;
  positive = h.positive;
  inside =
      subst (λ m. InShrunk m (shape_at (with_shapes shapes u) p).places h.x h.y h.w)
      (sym (same.margin no_shape))
      (subst (λ ps. InShrunk (shape_at u p).margin ps h.x h.y h.w) (sym (same.places no_shape)) h.inside);
  at = h.at;
}

parted_in : (shapes : List Shape) (u : Tree) (folds : ℕ → Fold) (halves : ℤ) → length shapes ≡ length u.panels
    → ((p : ℕ) → p < length u.panels → IsSamePanel (with_shapes shapes u) u p)
    → AreAllParted (with_shapes shapes u) folds halves → AreAllParted u folds halves
parted_in shapes u folds halves count same h = λ a b strangers.
    let few : b < length shapes = omega (arith, strangers.panels, count) in
    let parts = h a b (record { ordered = strangers.ordered; panels = few; apart = strangers.apart }) in
    let in_a = same a (omega (arith, strangers.ordered, strangers.panels)) in
    let in_b = same b strangers.panels in
    let by = parts.2 in
    let first = point_in shapes u folds a parts.0 in
    let second = point_in shapes u folds b parts.0 in (
      parts.0,
      frame_in shapes u a b parts.0 parts.1,
      (by.0, by.1, by.2, by.3, λ p q x y. by.4 p q (first p in_a x) (second q in_b y)),
    )

pub same_parted : (t u : Tree) (folds : ℕ → Fold) (halves : ℤ) → AreSame t u → AreAllParted t folds halves
    → AreAllParted u folds halves
same_parted t u folds halves same h =
    let is : t ≡ with_shapes t.panels u = λ i. record {
      panels = t.panels;
      root = same.root i;
      joints = same.joints i;
      creases = same.creases i;
    } in
    parted_in t.panels u folds halves same.count
    (λ p lt. record { margin = (same.panel p lt).margin; places = (same.panel p lt).places })
    (subst (λ x. AreAllParted x folds halves) is h)
