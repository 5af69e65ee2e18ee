use Rattle.carton_tree.proofs.Reaching.{round_ends}
use Rattle.carton_tree.proofs.spots.hang_all.Goals as goal

pub loop-i-preserved : goal.loop-i-preserved
loop-i-preserved c = λ root h. c.hang.ensures root (c.loop-i.invariant root h)

pub returns : goal.returns
returns c = λ root h. round_ends c.args.hinges.now root c.args.r c.loop-i.i c.loop-i.spots c.loop-i-test.false
    (c.loop-i.invariant root h)
