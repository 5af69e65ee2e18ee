use Rattle.std.proofs.Common.{rules, arith, ◌<◌, length, ◌∙◌, sym, subst, SFits}
use Rattle.std.specs.Int.{w128}
use Rattle.std.proofs.lemmas.Int.{to_z-of_z}
use Rattle.std.proofs.lemmas.List.{length-set}
use Rattle.carton_place.proofs.Lists.{one_more_set}
use Rattle.carton_enclose.specs.Points.{AreSigns}
use Rattle.carton_reach.specs.Axes.{axis_at}
use Rattle.carton_bodies.specs.Extents.{IsExtent}
use Rattle.carton_bodies.proofs.Extended.{extent_along, signs_at}
use Rattle.carton_bodies.proofs.extent.extents_over.Goals as goal

pub ends_along-ends-requires : goal.ends_along-ends-requires
ends_along-ends-requires c = subst AreSigns (sym c.axis-v.ensures) (signs_at c.loop-a.a c.loop-a-test.true)

pub speed_along-requires : goal.speed_along-requires
speed_along-requires c = subst AreSigns (sym c.axis-v.ensures) (signs_at c.loop-a.a c.loop-a-test.true)

pub loop-a-preserved : goal.loop-a-preserved
loop-a-preserved c =
    let a = c.loop-a.a in
    let xs = c.loop-a.axes in
    let body = c.args.body.now in
    let i = c.args.piece.index in
    let d = c.args.piece.depth in
    let ends = c.ends_along-ends.result in
    let fl : SFits w128 ends.least = search rules in
    let fg : SFits w128 ends.greatest = search rules in
    let fs : SFits w128 c.speed_along.result = search rules in
    let lt : a < length xs = omega (arith, c.loop-a.invariant.0, c.loop-a-test.true) in
    let near = c.ends_along-ends.ensures.ends.least in
    let far = c.ends_along-ends.ensures.ends.greatest in
    let speed = c.speed_along.ensures.value in
    let by = simp to_z-of_z at c.extent_by.ensures in
    let here : IsExtent body i d (axis_at a) c.extent_by.result = extent_along body i d a c.axis-v.result _ _
    _ c.span_of-times.result c.extent_by.result c.loop-a-test.true c.axis-v.ensures c.requires.shape
    c.span_of-times.ensures near far speed c.speed_along.ensures.size by in (
      length-set xs a c.extent_by.result
          ∙ c.loop-a.invariant.0,
      one_more_set (λ k e. IsExtent body i d (axis_at k) e) xs a c.extent_by.result
          lt here c.loop-a.invariant.1,
    )

pub returns-clause-extents : goal.returns-clause-extents
returns-clause-extents c = λ a d l. c.loop-a.invariant.1 a d (omega (arith, l, c.loop-a-test.false))
