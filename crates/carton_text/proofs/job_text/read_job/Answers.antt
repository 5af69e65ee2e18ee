use Rattle.std.proofs.Common.{subst, sym}
use Rattle.carton_text.specs.JobRules.{IsJob}
use Rattle.carton_text.proofs.KeptJobs.{keeps_rules}
use Rattle.carton_text.proofs.job_text.read_job.Goals as goal

pub returns-clause-keeps_rules : goal.returns-clause-keeps_rules
returns-clause-keeps_rules c =
    subst IsJob (sym c.told.ensures)
    (keeps_rules c.args.bytes.now c.in_ok-read_freely.field-0 c.in_ok-read_freely.ensures)
