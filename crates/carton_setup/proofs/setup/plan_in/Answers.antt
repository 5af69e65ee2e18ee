use Rattle.carton_setup.proofs.Outcomes.{reads_of, kept_in}
use Rattle.carton_lines.specs.declared.fault.LineError.TheVariants.{Memory}
use Rattle.carton_text.specs.Plans.{plan_of}
use Rattle.carton_text.specs.PlainPlans.{plain}
use Rattle.carton_text.specs.PlanRules.{IsPlan}
use Rattle.carton_setup.specs.Rules.{line_rule}
use Rattle.carton_words.specs.declared.kinds.FileKind.TheVariants.{Plan}
use Rattle.carton_setup.proofs.setup.plan_in.Goals as goal

pub returns-clause-reads : goal.returns-clause-reads
returns-clause-reads c =
    reads_of Plan line_rule Memory plain plan_of c.bytes_at.result.now _ c.bytes_at.ensures c.read_plan.result
    c.read_plan.ensures.reads
    c.accept.result c.accept.ensures

pub returns-clause-keeps_rules : goal.returns-clause-keeps_rules
returns-clause-keeps_rules c =
    kept_in Plan line_rule IsPlan c.read_plan.result c.read_plan.ensures.keeps_rules c.accept.result
    c.accept.ensures
