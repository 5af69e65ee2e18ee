use Rattle.std.proofs.Common.{◌≡◌, drop}
use Rattle.carton_words.specs.Rows.{verb_in}
use Rattle.carton_words.specs.Table.{row_of}
use Rattle.carton_words.proofs.words.first_named.Given as goal

abbrev pub invariant-loop-verb : goal.invariant-loop-verb
invariant-loop-verb l = verb_in row_of (drop l.verb-index l.verbs) l.word ≡ verb_in row_of l.verbs l.word
