use Rattle.std.proofs.Common.{refl, sym, subst}
use Rattle.carton_check.specs.Checks.{IsChecked}
use Rattle.carton_text.specs.PlanMoves.{AreMoves}
use Rattle.carton_text.proofs.PlanMoves.{moves_of}
use Rattle.carton_check.specs.Steps.{AreJudged}
use Rattle.carton_check.proofs.Implied.{judged_checked, sound_where, clear_holds}
use Rattle.carton_check.proofs.checking.check.Goals.{After-judged}
use Rattle.carton_check.proofs.checking.check.Goals as goal

pub judged-requires-clause-states : goal.judged-requires-clause-states
judged-requires-clause-states c =
    subst AreMoves (sym c.as_slice.ensures)
    (moves_of c.args.task.now c.args.plan.now c.requires.task c.requires.plan (c.in-None.ensures.none refl))

pub returns-in-Some-clause-checked : goal.returns-in-Some-clause-checked
returns-in-Some-clause-checked c = c.in-Some.ensures.some c.args.carton.now

pub returns-in-Some-clause-sound : goal.returns-in-Some-clause-sound
returns-in-Some-clause-sound c =
    sound_where c.args.carton.now c.args.task.now c.args.plan.now c.in-Some.answer c.keeps_rules.ensures
    (c.in-Some.ensures.some c.args.carton.now)

pub returns-in-Some-clause-slack_clear : goal.returns-in-Some-clause-slack_clear
returns-in-Some-clause-slack_clear c =
    clear_holds c.args.carton.now c.args.task.now c.args.plan.now c.in-Some.answer
    (c.in-Some.ensures.some c.args.carton.now)

judged : (c : After-judged) → IsChecked c.args.carton.now c.args.task.now c.args.plan.now c.judged.result
judged c = judged_checked c.args.carton.now c.args.task.now c.args.plan.now c.judged.result
    (c.in-None.ensures.none refl)
    (subst (λ xs. AreJudged c.args.carton.now c.args.task.now.slack xs c.judged.result) c.as_slice.ensures
    c.judged.ensures)

pub returns-in-None-clause-checked : goal.returns-in-None-clause-checked
returns-in-None-clause-checked c = judged c

pub returns-in-None-clause-sound : goal.returns-in-None-clause-sound
returns-in-None-clause-sound c = sound_where c.args.carton.now c.args.task.now c.args.plan.now c.judged.result
    c.keeps_rules.ensures (judged c)

pub returns-in-None-clause-slack_clear : goal.returns-in-None-clause-slack_clear
returns-in-None-clause-slack_clear c =
    clear_holds c.args.carton.now c.args.task.now c.args.plan.now c.judged.result (judged c)
