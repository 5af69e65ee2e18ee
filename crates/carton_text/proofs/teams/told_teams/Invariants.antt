use Rattle.std.proofs.Common.{◌≡◌, drop, length}
use Rattle.carton_base.specs.Steps.{entries_from}
use Rattle.carton_base.proofs.Entries.{with_front}
use Rattle.carton_text.specs.Tasks.{team_of}
use Rattle.carton_text.proofs.teams.told_teams.Given as goal

abbrev pub invariant-loop-line : goal.invariant-loop-line
invariant-loop-line l = record {
  so_far : with_front l.found (entries_from (λ i. team_of l.courses) l.line-index (drop l.line-index l.lines))
      ≡ entries_from (λ i. team_of l.courses) 0 l.lines;
  count : length l.found ≡ l.line-index;
}
