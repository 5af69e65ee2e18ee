use Rattle.std.proofs.Common.{sym}
use Rattle.carton_tool.proofs.verbs.tell.Goals as goal

pub returns-in-Flat : goal.returns-in-Flat
returns-in-Flat c = rw c.in-Flat.is (rw (sym c.margin-margin.ensures.value) c.tell.ensures)

pub returns-in-Pose : goal.returns-in-Pose
returns-in-Pose c = rw c.in-Pose.is (rw (sym c.end.ensures) c.tell-in-Pose.ensures)
