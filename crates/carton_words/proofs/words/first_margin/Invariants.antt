use Rattle.std.proofs.Common.{◌≡◌, drop, map}
use Rattle.carton_words.specs.Asked.{given}
use Rattle.carton_words.specs.Commands.{margin_in}
use Rattle.carton_words.proofs.words.first_margin.Given as goal

abbrev pub invariant-loop-given : goal.invariant-loop-given
invariant-loop-given l = margin_in (map given (drop l.given-index l.givens)) ≡ margin_in (map given l.givens)
