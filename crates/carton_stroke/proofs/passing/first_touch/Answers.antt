use Rattle.std.proofs.Common.{ℕ, arith, pos, refl, subst, below_more, ◌<◌}
use Rattle.carton_part.specs.Parted.{AtEachMoment}
use Rattle.carton_bodies.specs.Extents.{AreExtents}
use Rattle.carton_stroke.specs.Steps.{IsPartedAt}
use Rattle.carton_stroke.proofs.Seen.{known_axes, known_kept}
use Rattle.carton_stroke.proofs.passing.first_touch.Goals.{then-not-are_known_apart+in_default}
use Rattle.carton_stroke.proofs.passing.first_touch.Goals.{else-not-are_known_apart}
use Rattle.carton_stroke.proofs.passing.first_touch.Goals as goal

pub are_known_apart-requires-clause-reaches : goal.are_known_apart-requires-clause-reaches
are_known_apart-requires-clause-reaches c =
    let lt : c.loop-p.p < 24 =
    omega (arith, c.loop-p-test.true, c.panels-p-end.ensures.count, c.panels-p-end.ensures.carton.few) in
    known_axes c.args.carton.now c.args.motion.now c.loop-p.p _
    (c.requires.known.each c.loop-p.p c.index-known-p.result lt)

pub loop-p-preserved : goal.loop-p-preserved
loop-p-preserved c =
    let t = c.args.carton.now in
    let motion = c.args.motion.now in
    let b = c.args.body.now in
    let p = c.loop-p.p in
    let es = c.extents_over-extents.result.axes in
    let lt : p < 24 =
    omega (arith, c.loop-p-test.true, c.panels-p-end.ensures.count, c.panels-p-end.ensures.carton.few) in
    let extents : AreExtents b 0 0 es = subst (λ k. AreExtents b 0 k es) c.whole.ensures.depth
    (subst (λ i. AreExtents b i c.whole.result.depth es) c.whole.ensures.index
    c.extents_over-extents.ensures.extents) in
    below_more (λ (panel : ℕ). AtEachMoment (IsPartedAt t motion panel b (pos 0))) p c.loop-p.invariant
    (elim c.if-not-are_known_apart.branch [
      | then-not-are_known_apart+in_default w ↦ w.in_default.ensures.none refl
      | else-not-are_known_apart w ↦
          known_kept t motion p b _ es (c.requires.known.each p c.index-known-p.result lt) extents
          (c.are_known_apart.ensures w.if-not-are_known_apart.false)
    ])
