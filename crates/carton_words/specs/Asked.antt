-- The command that a reading of the words found, and the files that it names.
use Rattle.std.specs.Prelude.{map}
use Rattle.carton_words.specs.Commands.{Command}
use Rattle.carton_words.specs.Kinds.{Named}
use Rattle.carton_words.specs.Words.{Given as GivenWord, a_file, a_margin, an_end, a_count}
use Rattle.carton_words.specs.declared.words.Asked.{Asked}
use Rattle.carton_words.specs.declared.givens.Given.{Given}
use Rattle.carton_words.specs.declared.givens.Given.TheVariants.{File, Margin, End, Count}
use Rattle.carton_words.specs.declared.givens.Wanted.{Wanted}

abbrev pub named : Wanted → Named
named wanted = record { kind = wanted.kind; name = wanted.name.now }

abbrev pub given : Given → GivenWord
given (File wanted) = a_file (named wanted)
given (Margin margin) = a_margin margin
given (End end) = an_end end
given (Count count) = a_count count

abbrev pub asked : Asked → Command
asked command = record { verb = command.verb; given = map given command.given.items }
