use Rattle.std.proofs.Common.{◌≡◌, take, filter_map}
use Rattle.carton_text.specs.CartonTasks.{locked_edge}
use Rattle.carton_text.proofs.carton_task.locked_joints.Given as goal

abbrev pub invariant-loop-panel : goal.invariant-loop-panel
invariant-loop-panel l = l.found.items ≡ filter_map locked_edge (take l.panel l.carton.joints)
