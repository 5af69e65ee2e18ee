use Rattle.std.proofs.Common.{◌≡◌, drop, map}
use Rattle.carton_base.specs.Steps.{entries_from}
use Rattle.carton_lines.specs.Numbers.{at_most}
use Rattle.carton_base.proofs.Entries.{with_front}
use Rattle.carton_catalogue.proofs.values.values.Given as goal

abbrev pub invariant-loop-number : goal.invariant-loop-number
invariant-loop-number l =
    with_front l.found.items (entries_from (λ i. at_most l.fn.most) l.number-index
    (map (λ z. z) (drop l.number-index l.numbers))) ≡ entries_from (λ i. at_most l.fn.most) 0 l.numbers
