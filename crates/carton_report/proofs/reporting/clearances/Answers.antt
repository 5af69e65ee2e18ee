use Rattle.std.proofs.Common.{sym, subst}
use Rattle.carton_check.specs.Checks.{IsChecked}
use Rattle.carton_text.specs.PlanMoves.{AreMoves}
use Rattle.carton_text.proofs.PlanMoves.{moves_of}
use Rattle.carton_report.proofs.reporting.clearances.Goals as goal

pub rows-requires-clause-moves : goal.rows-requires-clause-moves
rows-requires-clause-moves c =
    let holds = subst (λ answer. IsChecked c.args.carton.now c.args.task.now c.args.plan.now answer)
    c.in-Holds.is c.check-answer.ensures.checked in
    subst AreMoves (sym c.as_slice.ensures)
    (moves_of c.args.task.now c.args.plan.now c.requires.task c.requires.plan holds.0)
