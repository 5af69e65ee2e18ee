use Rattle.std.proofs.Common.{◌≡◌, drop, map}
use Rattle.carton_base.specs.Steps.{entries_from}
use Rattle.carton_text.specs.JobLines.{edge_in}
use Rattle.carton_base.proofs.Entries.{with_front}
use Rattle.carton_text.proofs.job_line.edges.Given as goal

abbrev pub invariant-loop-number : goal.invariant-loop-number
invariant-loop-number l =
    with_front l.found.items (entries_from (λ i. edge_in) l.number-index
    (map (λ z. z) (drop l.number-index l.numbers))) ≡ entries_from (λ i. edge_in) 0 l.numbers
