use Rattle.carton_search.proofs.Trying.{of_task}
use Rattle.carton_search.proofs.turns.try_step.Goals as goal

pub next_state-requires-clause-at : goal.next_state-requires-clause-at
next_state-requires-clause-at g c =
    let turn = c.args.turn.now in
    of_task c.args.task.now (g.J.Judge.carton c.args.judge.now) c.requires.suits.rules c.args.known.now
    turn.number turn.entry turn.count turn.step c.requires.trying c.requires.less
