use Rattle.carton_setup.proofs.Outcomes.{reads_of, kept_in}
use Rattle.carton_lines.specs.declared.fault.LineError.TheVariants.{Memory}
use Rattle.carton_text.specs.Jobs.{job_of}
use Rattle.carton_text.specs.JobRules.{IsJob}
use Rattle.carton_setup.specs.Rules.{line_rule}
use Rattle.carton_words.specs.declared.kinds.FileKind.TheVariants.{Job}
use Rattle.carton_setup.proofs.setup.job_in.Goals as goal

pub returns-clause-reads : goal.returns-clause-reads
returns-clause-reads c =
    reads_of Job line_rule Memory (λ j. j) job_of c.bytes_at.result.now _ c.bytes_at.ensures c.read_job.result
    c.read_job.ensures.reads
    c.accept.result c.accept.ensures

pub returns-clause-keeps_rules : goal.returns-clause-keeps_rules
returns-clause-keeps_rules c =
    kept_in Job line_rule IsJob c.read_job.result c.read_job.ensures.keeps_rules c.accept.result
    c.accept.ensures
