use Rattle.std.proofs.Common.{below_more, arith}
use Rattle.carton_check.proofs.Judged.{KeepsMove, keeps_move, blocked_move, holds_throughout}
use Rattle.carton_check.proofs.judging.first_blocked.Goals as goal

pub returns-in-Blocked : goal.returns-in-Blocked
returns-in-Blocked c = blocked_move c.args.carton.now c.args.states.now c.loop-i.i c.in-Blocked.a.0
    c.in-Blocked.b.0 c.args.slack c.move_at-motion.result c.in-Blocked.moment c.move_at-motion.ensures.is
    c.in-Blocked.ensures

pub loop-i-preserved : goal.loop-i-preserved
loop-i-preserved c = below_more (KeepsMove c.args.carton.now c.args.states.now) c.loop-i.i c.loop-i.invariant
    (keeps_move c.args.carton.now c.args.states.now c.loop-i.i c.move_at-motion.result
    c.move_at-motion.ensures.is c.in_default.ensures)

pub returns : goal.returns
returns c =
    let two = c.requires.moves in
    let end = c.loop-i-test.false in
    holds_throughout c.args.carton.now c.args.states.now _ c.requires.states c.requires.moves
    (omega (arith, two)) (λ i lt. c.loop-i.invariant i (omega (arith, lt, end)))
