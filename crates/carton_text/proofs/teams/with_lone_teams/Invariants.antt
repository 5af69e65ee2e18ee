use Rattle.std.proofs.Common.{◌≡◌, ◌≤◌, ◌+◌, ◌++◌, drop, length}
use Rattle.carton_text.specs.JobRules.{members}
use Rattle.carton_text.specs.Tasks.{lone_teams}
use Rattle.carton_text.proofs.teams.with_lone_teams.Given as goal

abbrev pub invariant-loop-k : goal.invariant-loop-k
invariant-loop-k l = record {
  so_far : l.teams ++ lone_teams (members l.lines) l.k (drop l.k l.courses)
      ≡ l.fn.teams ++ lone_teams (members l.lines) 0 l.courses;
  few : length l.teams ≤ length l.fn.teams + l.k;
}
