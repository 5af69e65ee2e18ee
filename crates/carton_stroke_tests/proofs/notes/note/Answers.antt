use Rattle.carton_text.proofs.PlanMoves.{plan_of_task}
use Rattle.carton_cases.specs.Cases.{IsCase}
use Rattle.carton_stroke_tests.proofs.notes.note.Goals as goal

pub body_clears-requires-clause-plan : goal.body_clears-requires-clause-plan
body_clears-requires-clause-plan c =
    let case = c.in_ok-case.case in
    let kept : IsCase case = c.in_ok-case.ensures in
    plan_of_task case.carton case.task c.in_ok-plan.plan kept.task c.in_ok-plan.ensures kept.creases
    c.in-Holds.ensures.checked.0
