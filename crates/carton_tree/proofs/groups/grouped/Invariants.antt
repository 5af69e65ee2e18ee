use Rattle.std.proofs.Common.{◌≡◌, length}
use Rattle.carton_base.specs.declared.limits.TheConstants.{MOST_PANELS}
use Rattle.carton_tree.specs.Steps.{AreGroups, AreOpen}
use Rattle.carton_tree.proofs.groups.grouped.Given as goal

abbrev pub invariant-loop-hinge : goal.invariant-loop-hinge
invariant-loop-hinge l =
    record {
      len : length l.groups ≡ MOST_PANELS;
      are : AreGroups l.hinges MOST_PANELS l.hinge-index l.groups;
      still_open : AreOpen l.hinges l.hinge-index;
    }
