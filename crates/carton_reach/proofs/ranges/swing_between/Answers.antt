use Rattle.carton_reach.proofs.Passing.{follows}
use Rattle.carton_reach.proofs.ranges.swing_between.Goals as goal

pub returns : goal.returns
returns c = λ motion between. follows c.args.low.now c.args.high.now c.args.turn.now.place
    c.span_between.result c.swing_within.result motion c.requires.turn.place c.span_between.ensures
    c.swing_within.ensures between
