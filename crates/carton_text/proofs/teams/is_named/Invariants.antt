use Rattle.std.proofs.Common.{◌≡◌, drop}
use Rattle.carton_text.specs.JobRules.{members}
use Rattle.carton_text.specs.Tasks.{is_among}
use Rattle.carton_text.proofs.teams.is_named.Given as goal

abbrev pub invariant-loop-line : goal.invariant-loop-line
invariant-loop-line l = is_among l.edge (members (drop l.line-index l.lines))
    ≡ is_among l.edge (members l.lines)
