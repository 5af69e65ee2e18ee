use Rattle.std.proofs.Common.{rules, arith, ◌≡◌, pos, ◌*ℤ◌, SFits, subst}
use Rattle.std.specs.Int.{w128}
use Rattle.std.proofs.lemmas.Int.{to_z-of_z}
use Rattle.carton_base.proofs.Loops.{yes, at_yes}
use Rattle.carton_reach.specs.Reaches.{half}
use Rattle.carton_stroke.specs.Nearness.{IsNear, AllNear}
use Rattle.carton_stroke.proofs.Passed.{one_more_beside}
use Rattle.carton_stroke.proofs.nearness.are_near.Goals as goal

pub loop-a-preserved : goal.loop-a-preserved
loop-a-preserved c =
    let r : SFits w128 c.room_of-room.result = search rules in
    let h = simp to_z-of_z at c.loop-a.invariant in
    let near = simp to_z-of_z at (at_yes c.if-not-is_near.false c.is_near.ensures) in
    simp to_z-of_z (
      h.0,
      h.1,
      one_more_beside (IsNear c.room_of-room.result) c.args.panel.now.axes
          c.args.body.now.axes c.loop-a.a c.index-panel-a.result _ (omega (arith, h.0, c.loop-a-test.true))
          (omega (arith, h.1, c.loop-a-test.true)) near h.2,
    )

pub returns : goal.returns
returns c =
    let r : SFits w128 c.room_of-room.result = search rules in
    let value : c.room_of-room.result ≡ (pos 2 *ℤ pos c.args.slack) *ℤ half = c.room_of-room.ensures.value in
    let h = simp to_z-of_z at c.loop-a.invariant in
    yes (subst (λ m. AllNear m c.args.panel.now.axes c.args.body.now.axes) value
    (λ a d e l. h.2 a d e (omega (arith, l, c.loop-a-test.false))))
