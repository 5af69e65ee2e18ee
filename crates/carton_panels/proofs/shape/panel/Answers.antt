use Rattle.std.proofs.Common.{◌≡◌, ◌∙◌, ℕ, ◌<◌, ◌≤◌, List, length, eqb, true, false, eqb-true, subst, refl}
use Rattle.std.proofs.Common.{sym, arith, pos, ◌<ℤ◌}
use Rattle.std.proofs.lemmas.Bool.{eqb-false}
use Rattle.std.specs.Prelude.{Any, All}
use Rattle.carton_base.specs.declared.dieline.Point.{Point}
use Rattle.carton_base.specs.declared.numbers.Triple.{Triple}
use Rattle.carton_model.specs.Dielines.{IsNear}
use Rattle.carton_base.specs.declared.limits.TheConstants.{LEAST_CORNERS, MOST_CORNERS}
use Rattle.carton_panels.specs.Panels.{sides_of, IsConvex, IsDistinct, IsRepeating}
use Rattle.carton_panels.specs.Shrinking.{IsThin}
use Rattle.carton_panels.specs.Shapes.{Shape, IsShape}
use Rattle.carton_panels.specs.Insets.{inset}
use Rattle.carton_base.proofs.Loops.{at_yes, at_no}
use Rattle.carton_panels.proofs.Repeats.{distinct_from}
use Rattle.carton_panels.proofs.Making.{complete_from_rows, thin_if_empty, thin_if_level, shape_made}
use Rattle.carton_panels.proofs.shape.panel.Goals as goal
use Rattle.carton_panels.proofs.shape.panel.Goals.{then-is_empty-via-then-is_empty}
use Rattle.carton_panels.proofs.shape.panel.Goals.{then-is_empty-via-else-is_empty+then-not-has_room}

-- each side's inset line leaves one of the points on its inner side
abbrev IsFree : ℕ → List Point → List Triple → Type 0
IsFree m ps ts = All (λ s. Any (λ (t : Triple). pos 0 <ℤ inset m s t.x t.y t.w) ts) (sides_of ps)

-- or some side's doesn't
abbrev IsLevel : ℕ → List Point → List Triple → Type 0
IsLevel m ps ts = Any (λ s. ¬ (Any (λ (t : Triple). pos 0 <ℤ inset m s t.x t.y t.w) ts)) (sides_of ps)

pub returns-then-is_repeating : goal.returns-then-is_repeating
returns-then-is_repeating c = (
  refl,
  subst IsRepeating (c.as_slice-outline.ensures.value ∙ c.in_ok-places.ensures.places)
      (at_yes c.if-is_repeating.true c.is_repeating.ensures),
)

pub returns-then-not-is_convex : goal.returns-then-not-is_convex
returns-then-not-is_convex c =
    let qs = c.as_slice-outline.result.now in
    let e = c.as_slice-outline.ensures.value ∙ c.in_ok-places.ensures.places in
    let distinct = distinct_from qs (at_no c.if-is_repeating.false c.is_repeating.ensures) in (
      refl,
      subst IsDistinct e distinct,
      subst (λ ps. ¬ (IsConvex ps)) e
          (at_no c.if-not-is_convex.true c.is_convex.ensures),
    )

pub returns-then-is_empty : goal.returns-then-is_empty
returns-then-is_empty c =
    let qs = c.as_slice-outline.result.now in
    let e = c.as_slice-outline.ensures.value ∙ c.in_ok-places.ensures.places in
    let m = c.args.margin in
    let ts = c.in_ok-shrunk.shrunk.items in
    let s = c.as_slice-found.ensures.value in
    let distinct = distinct_from qs (at_no c.if-is_repeating.false c.is_repeating.ensures) in
    let convex = at_yes c.if-not-is_convex.false c.is_convex.ensures in
    let complete = complete_from_rows m qs ts c.in_ok-shrunk.ensures.gathered c.in_ok-shrunk.ensures.covers in
    let some : 0 < length qs =
    subst (λ (ps : List Point). 0 < length ps) (sym c.as_slice-outline.ensures.value)
    (omega (arith, c.in_ok-places.ensures.some)) in
    let thin : IsThin m qs = elim c.then-is_empty.branch [
      | then-is_empty-via-then-is_empty w ↦
          thin_if_empty m qs ts some convex complete
          (eqb-true (length ts) 0
          (subst (λ (us : List Triple). eqb (length us) 0 ≡ true) s (sym c.is_empty.ensures
          ∙ w.if-is_empty.true)))
      | then-is_empty-via-else-is_empty+then-not-has_room w ↦
          thin_if_level m qs ts convex complete
          (subst (IsLevel m qs) s (w.has_room.ensures.none w.if-not-has_room.true))
    ] in
    (refl, subst IsDistinct e distinct, subst IsConvex e convex, subst (IsThin m) e thin)

pub invariant_of-result : goal.invariant_of-result
invariant_of-result c =
    let m = c.args.margin in
    let qs = c.as_slice-outline.result.now in
    let ts = c.in_ok-shrunk.shrunk.items in
    let cs = c.in_ok-corners.corners.items in
    let e = c.as_slice-outline.ensures.value in
    let s = c.as_slice-found.ensures.value in
    let places = c.in_ok-places.ensures in
    let distinct = distinct_from qs (at_no c.if-is_repeating.false c.is_repeating.ensures) in
    let convex = at_yes c.if-not-is_convex.false c.is_convex.ensures in
    let gathered = c.in_ok-shrunk.ensures.gathered in
    let complete = complete_from_rows m qs ts gathered c.in_ok-shrunk.ensures.covers in
    let free : IsFree m qs ts = subst (IsFree m qs) s (c.has_room.ensures.room c.if-not-has_room.false) in
    let found : 0 < length ts =
    positive (length ts)
    (eqb-false (length ts) 0 (subst (λ (us : List Triple). eqb (length us) 0 ≡ false) s
    (sym c.is_empty.ensures ∙ c.if-is_empty.false))) in
    let some : LEAST_CORNERS ≤ length qs =
    subst (λ (ps : List Point). LEAST_CORNERS ≤ length ps) (sym e) places.some in
    let few : length qs ≤ MOST_CORNERS =
    subst (λ (ps : List Point). length ps ≤ MOST_CORNERS) (sym e) places.few in
    let near : All IsNear qs = subst (All IsNear) (sym e) places.near in
    let shape : List Point → Shape = λ ps. record { places = ps; margin = m; corners = cs; shrunk = ts } in
    subst (λ ps. IsShape (shape ps)) e (shape_made m qs cs ts some few near distinct convex c.requires.margin
    c.in_ok-corners.ensures.corners c.in_ok-corners.ensures.whole gathered complete found free)
  where
    positive : (n : ℕ) → ¬ (n ≡ 0) → 0 < n
    positive n h = omega (arith, h)

pub returns : goal.returns
returns c = (c.in_ok-places.ensures.places, refl, invariant_of-result c)
