use Rattle.std.proofs.Common.{arith, ◌<◌, length, Some, subst}
use Rattle.carton_part.specs.Looks.{IsReachIn}
use Rattle.carton_stroke.proofs.Placements.{with_reach}
use Rattle.carton_stroke.proofs.world.known_over.Goals as goal

pub loop-p-preserved : goal.loop-p-preserved
loop-p-preserved c =
    let t = c.args.carton.now in
    let h = c.loop-p.invariant in
    let r = c.reaches_in_world.result in
    let lt : c.loop-p.p < length c.loop-p.known =
    omega (
      arith,
      h.count,
      c.loop-p-test.true,
      c.panels-p-end.ensures.count,
      c.panels-p-end.ensures.carton.few,
    ) in
    let here : IsReachIn t c.args.motion.now c.loop-p.p t.root 0 0 r =
    subst (λ d. IsReachIn t c.args.motion.now c.loop-p.p t.root 0 d r) c.whole.ensures.depth
    (subst (λ i. IsReachIn t c.args.motion.now c.loop-p.p t.root i c.whole.result.depth r)
    c.whole.ensures.index c.reaches_in_world.ensures) in
    with_reach t c.args.motion.now t.root c.loop-p.p c.loop-p.known (Some r) h lt here
