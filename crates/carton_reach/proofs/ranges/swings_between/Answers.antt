use Rattle.std.proofs.Common.{arith, ◌<◌, length, get_or, ◌∙◌, subst}
use Rattle.std.proofs.lemmas.List.{length-set, get_or_default}
use Rattle.carton_base.specs.declared.motion.Motion.{Motion}
use Rattle.carton_base.specs.declared.motion.Turn.{Turn}
use Rattle.carton_place.specs.declared.swings.Swing.{Swing}
use Rattle.carton_place.specs.Swings.{FollowsMove}
use Rattle.carton_place.proofs.Lists.{one_more_set}
use Rattle.carton_reach.specs.Ranges.{IsMotionBetween}
use Rattle.carton_reach.proofs.ranges.swings_between.Goals as goal

pub loop-i-preserved : goal.loop-i-preserved
loop-i-preserved c =
    let i = c.loop-i.i in
    let turns = c.args.turns.now in
    let l : i < length c.loop-i.swings =
    omega (arith, c.loop-i.invariant.0, c.loop-i-test.true, c.requires.count) in
    let here : (t : Turn) (motion : Motion) → IsMotionBetween c.args.low.now c.args.high.now motion
    → FollowsMove c.swing_between.result motion (get_or turns i t).place 0 0 =
    λ t motion between. subst (λ u. FollowsMove c.swing_between.result motion u.place 0 0) (c.index-turns-i.is
    ∙ get_or_default turns i c.index-turns-i.result t c.loop-i-test.true)
    (c.swing_between.ensures motion between) in (
      length-set c.loop-i.swings i c.swing_between.result ∙ c.loop-i.invariant.0,
      one_more_set (λ k (s : Swing). (t : Turn) (motion : Motion)
          → IsMotionBetween c.args.low.now c.args.high.now motion
          → FollowsMove s motion (get_or turns k t).place 0 0) c.loop-i.swings i c.swing_between.result l here
          c.loop-i.invariant.1,
    )

pub returns-clause-swings : goal.returns-clause-swings
returns-clause-swings c =
    λ motion between k s t l. c.loop-i.invariant.1 k s (omega (arith, l, c.loop-i-test.false)) t motion
    between
