use Rattle.std.proofs.Common.{◌≡◌, ◌++◌, drop, map}
use Rattle.carton_words.specs.Asked.{asked, given, named}
use Rattle.carton_words.specs.Commands.{files_of, files_in}
use Rattle.carton_words.proofs.words.wanted_by.Given as goal

abbrev pub invariant-loop-given : goal.invariant-loop-given
invariant-loop-given l =
    map named l.wanted.items ++ files_in (map given (drop l.given-index l.given-items))
    ≡ files_of (asked l.command)
