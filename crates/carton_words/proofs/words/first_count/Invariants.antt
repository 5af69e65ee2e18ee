use Rattle.std.proofs.Common.{◌≡◌, drop, map}
use Rattle.carton_words.specs.Asked.{given}
use Rattle.carton_words.specs.Commands.{count_in}
use Rattle.carton_words.proofs.words.first_count.Given as goal

abbrev pub invariant-loop-given : goal.invariant-loop-given
invariant-loop-given l = count_in (map given (drop l.given-index l.givens)) ≡ count_in (map given l.givens)
