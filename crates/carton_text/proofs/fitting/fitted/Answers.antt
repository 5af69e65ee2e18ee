use Rattle.std.proofs.Common.{length, sym}
use Rattle.carton_text.proofs.KeptTasks.{keeps_rules}
use Rattle.carton_text.proofs.fitting.fitted.Goals as goal

pub returns-clause-keeps_rules : goal.returns-clause-keeps_rules
returns-clause-keeps_rules c =
    let raw = c.args.raw.now in
    keeps_rules c.args.creases.now c.args.locked.now (length raw.edges) raw.angles c.args.job.now _
    c.made.result c.requires.few c.requires.job c.requires.dieline.angles
    (sym c.in_ok-only_joints.ensures) c.made.ensures
