use Rattle.std.proofs.Common.{List, ◌++◌, drop, map}
use Rattle.carton_words.specs.Asked.{given}
use Rattle.carton_words.specs.Words.{Given as GivenWord, texts, AreGiven}
use Rattle.carton_words.proofs.words.given_by.Given as goal

-- what was found, and whatever the words that are left give, are given by all the words
abbrev pub invariant-loop-k : goal.invariant-loop-k
invariant-loop-k l = (rest : List GivenWord) → AreGiven (drop l.k l.slots) (texts (drop l.k l.words)) rest
    → AreGiven l.slots (texts l.words) (map given l.found.items ++ rest)
