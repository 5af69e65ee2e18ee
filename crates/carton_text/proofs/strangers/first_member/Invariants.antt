use Rattle.std.proofs.Common.{◌≡◌, drop, not}
use Rattle.std.specs.List.{find}
use Rattle.carton_text.specs.JobRules.{members}
use Rattle.carton_text.specs.Tasks.{is_among}
use Rattle.carton_text.proofs.strangers.first_member.Given as goal

abbrev pub invariant-loop-team : goal.invariant-loop-team
invariant-loop-team l = find (λ e. not (is_among e l.creases)) (members (drop l.team-index l.teams))
    ≡ find (λ e. not (is_among e l.creases)) (members (l.teams))
