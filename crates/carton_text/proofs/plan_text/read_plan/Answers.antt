use Rattle.carton_text.proofs.PlansRead.{keeps_rules}
use Rattle.carton_text.proofs.plan_text.read_plan.Goals as goal

pub returns-clause-keeps_rules : goal.returns-clause-keeps_rules
returns-clause-keeps_rules c =
    keeps_rules c.args.bytes.now c.in_ok-read_strictly.field-0 c.told.result
    c.in_ok-read_strictly.ensures.reads c.told.ensures
