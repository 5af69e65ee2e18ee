use Rattle.std.proofs.Common.{◌≡◌, drop, map}
use Rattle.carton_base.specs.Steps.{entries_from}
use Rattle.carton_lines.specs.Numbers.{number_in}
use Rattle.carton_base.proofs.Entries.{with_front}
use Rattle.carton_lines.proofs.decimals.numbers.Given as goal

abbrev pub invariant-loop-word : goal.invariant-loop-word
invariant-loop-word l =
    with_front l.found.items (entries_from (λ i. number_in) l.word-index
    (map (λ w. w.now) (drop l.word-index l.words)))
    ≡ entries_from (λ i. number_in) 0 (map (λ w. w.now) l.words)
