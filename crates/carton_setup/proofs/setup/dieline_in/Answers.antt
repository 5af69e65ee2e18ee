use Rattle.carton_setup.proofs.Outcomes.{reads_of, kept_in}
use Rattle.carton_fold.specs.declared.error.FoldError.TheVariants.{Memory}
use Rattle.carton_fold.specs.Dieline.{dieline_of}
use Rattle.carton_model.specs.Dielines.{IsDieline}
use Rattle.carton_setup.specs.Rules.{fold_rule}
use Rattle.carton_words.specs.declared.kinds.FileKind.TheVariants.{Dieline}
use Rattle.carton_setup.proofs.setup.dieline_in.Goals as goal

pub returns-clause-reads : goal.returns-clause-reads
returns-clause-reads c =
    reads_of Dieline fold_rule Memory (λ d. d) dieline_of c.bytes_at.result.now _ c.bytes_at.ensures
    c.read_dieline.result c.read_dieline.ensures.reads
    c.accept.result c.accept.ensures

pub returns-clause-keeps_rules : goal.returns-clause-keeps_rules
returns-clause-keeps_rules c =
    kept_in Dieline fold_rule IsDieline c.read_dieline.result c.read_dieline.ensures.keeps_rules
    c.accept.result c.accept.ensures
