use Rattle.carton_steps.proofs.Moves.{team_moves}
use Rattle.carton_steps.proofs.stepping.next_state.Goals as goal

pub returns-clause-is_move : goal.returns-clause-is_move
returns-clause-is_move c =
    rw (c.moved.ensures, c.goal-goal.ensures, c.members-members.ensures.value)
    (team_moves c.args.task.now c.args.at.now c.args.team c.args.forward c.requires.rules c.requires.at)
