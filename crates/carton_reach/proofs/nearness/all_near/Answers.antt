use Rattle.std.proofs.Common.{arith, get_or, SFits}
use Rattle.std.specs.Int.{w128}
use Rattle.std.proofs.lemmas.Int.{to_z-of_z}
use Rattle.carton_base.proofs.Loops.{yes, at_yes}
use Rattle.carton_reach.specs.Reaches.{IsNear}
use Rattle.carton_reach.proofs.Lists.{one_more_pair}
use Rattle.carton_reach.proofs.nearness.all_near.Goals as goal

pub loop-a-preserved : goal.loop-a-preserved
loop-a-preserved c =
    let r : SFits w128 c.args.room = c.ranges.room in
    let p = c.args.p.now.axes in
    let q = c.args.q.now.axes in
    let before = simp to_z-of_z at c.loop-a.invariant in
    let near : IsNear c.args.room (get_or p c.loop-a.a c.index-p-a.result) (get_or q c.loop-a.a
    c.index-q-a.result)
    × IsNear c.args.room (get_or q c.loop-a.a c.index-q-a.result) (get_or p c.loop-a.a
    c.index-p-a.result) = simp to_z-of_z at (at_yes c.if-not-is_near.false c.is_near.ensures) in
    simp to_z-of_z (
      before.0,
      before.1,
      one_more_pair (λ x y. IsNear c.args.room x y × IsNear c.args.room y x)
          p q c.loop-a.a c.index-p-a.result c.index-q-a.result before.0 before.1 c.loop-a-test.true near
          before.2,
    )

pub returns : goal.returns
returns c =
    let r : SFits w128 c.args.room = c.ranges.room in
    let before = simp to_z-of_z at c.loop-a.invariant in
    yes (λ a d l. before.2 a d (omega (arith, l, c.loop-a-test.false)) l)
