use Rattle.std.proofs.Common.{◌≡◌, ◌-◌, ◌<◌, ◌++◌, length}
use Rattle.carton_base.specs.declared.limits.TheConstants.{LONGEST_PATH}
use Rattle.carton_tree.specs.Trees.{path_by}
use Rattle.carton_tree.proofs.paths.path_of.Given as goal

abbrev pub invariant-loop-step : goal.invariant-loop-step
invariant-loop-step l =
    record {
      within : l.at.0 < length l.joints;
      rest : l.found.items ++ path_by (LONGEST_PATH - l._step) l.joints l.at.0
          ≡ path_by LONGEST_PATH l.joints l.fn.p.0;
    }
