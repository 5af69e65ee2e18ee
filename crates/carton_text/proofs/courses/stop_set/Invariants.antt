use Rattle.std.proofs.Common.{◌≡◌, drop}
use Rattle.carton_text.specs.Tasks.{stop_set}
use Rattle.carton_text.proofs.courses.stop_set.Given as goal

abbrev pub invariant-loop-setting : goal.invariant-loop-setting
invariant-loop-setting l = stop_set (drop l.setting-index l.settings) l.edge ≡ stop_set l.settings l.edge
