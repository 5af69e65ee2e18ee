use Rattle.carton_search.proofs.Verdicts.{clear_move, blocked_move}
use Rattle.carton_search.proofs.judging.is_clear.Goals as goal

pub returns-in-Clear-clause-clear : goal.returns-in-Clear-clause-clear
returns-in-Clear-clause-clear g c =
    clear_move (g.J.Judge.carton c.args.judge.now) c.args.from.now c.args.to.now c.in-Clear.ensures.verdict

pub returns-in-Blocked-clause-clear : goal.returns-in-Blocked-clause-clear
returns-in-Blocked-clause-clear g c =
    let v = c.in-Blocked.ensures.verdict in
    blocked_move (g.J.Judge.carton c.args.judge.now) c.args.from.now c.args.to.now c.in-Blocked.a.0
    c.in-Blocked.b.0 (g.J.Judge.slack c.args.judge.now) c.in-Blocked.moment v.0 v.1
