use Rattle.carton_plan_commands.proofs.flat.share_crease.Goals as goal

pub returns-in-Some : goal.returns-in-Some
returns-in-Some c = (λ alone. absurd (cc), λ none. absurd (none c.in-Some.field-0.0 c.in-Some.ensures.0))
