use Rattle.std.proofs.Common.{◌≡◌, ◌*◌, ◌≤◌, take}
use Rattle.std.specs.List.{sum_by}
use Rattle.carton_steps.specs.Estimates.{steps_left}
use Rattle.carton_steps.proofs.estimates.estimate.Given as goal

abbrev pub invariant-loop-team : goal.invariant-loop-team
invariant-loop-team l = record {
  so_far : l.sum ≡ sum_by (steps_left l.task l.at) (take l.team-index l.task.teams);
  low : l.sum ≤ 255 * l.team-index;
}
