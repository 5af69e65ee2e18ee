use Rattle.std.proofs.Common.{◌*◌, ◌≤◌}
use Rattle.carton_base.specs.declared.limits.TheConstants.{MOST_STATES}
use Rattle.carton_plan_commands.specs.Make.{AreLinesOf}
use Rattle.carton_plan_commands.proofs.make.lines_of.Given as goal

abbrev pub invariant-loop-k : goal.invariant-loop-k
invariant-loop-k l = AreLinesOf l.k l.lines.items l.total × (l.total ≤ l.k * MOST_STATES)
