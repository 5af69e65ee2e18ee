use Rattle.std.proofs.Common.{Ok, Err, ◌∙◌, subst, ap}
use Rattle.carton_setup.specs.Outcomes.{IsOutcome}
use Rattle.carton_setup.specs.declared.refusal.Refusal.{Refusal}
use Rattle.carton_plan_commands.specs.Plan.{plannings}
use Rattle.carton_plan_commands.proofs.make.outcome_at.Goals as goal

pub returns-in-Ok-clause-planned : goal.returns-in-Ok-clause-planned
returns-in-Ok-clause-planned c =
    subst (λ files. plannings files (Ok c.in-Ok.answer)) (c.deref.ensures.value ∙ c.in_ok-files.ensures)
    c.in-Ok.ensures.finds

pub returns-in-Err-Bad-clause-planned : goal.returns-in-Err-Bad-clause-planned
returns-in-Err-Bad-clause-planned c =
    let refused = subst (IsOutcome (plannings c.deref.result.now))
    (ap (λ (e : Refusal). Err e) c.in-Err-Bad.field-0-is) c.in-Err-Bad.ensures.finds in
    subst (λ files. plannings files (Err c.in-Err-Bad.file)) (c.deref.ensures.value ∙ c.in_ok-files.ensures)
    refused
