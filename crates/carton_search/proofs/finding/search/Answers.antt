use Rattle.carton_search.proofs.Budget.{budget}
use Rattle.carton_search.proofs.finding.search.Goals as goal

pub returns-in-Ok-clause-budget : goal.returns-in-Ok-clause-budget
returns-in-Ok-clause-budget g c = budget c.args.task.now (g.J.Judge.carton c.args.judge.now) c.in-Ok.end
    c.in-Ok.ensures.end
