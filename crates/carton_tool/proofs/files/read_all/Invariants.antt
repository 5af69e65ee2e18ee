use Rattle.std.proofs.Common.{◌≡◌, ℕ, List, map, drop}
use Rattle.carton_words.specs.Asked.{named}
use Rattle.carton_tool.specs.Files.{IsLengthOfLast}
use Rattle.carton_tool.proofs.Reaching.{IsFront}
use Rattle.carton_tool.proofs.files.read_all.Given as goal

abbrev pub invariant-loop-file : goal.invariant-loop-file
invariant-loop-file g l =
    let S = g.S.Shelf in record {
      front : IsFront (S.holds l.fn.shelf) (map named l.wanted) (map named (drop l.file-index l.wanted))
          l.files.items;
      last : IsLengthOfLast (S.had l.shelf) l.files.items;
      faults : S.faults l.shelf ≡ S.faults l.fn.shelf;
      unnamed : S.last_failed l.shelf ≡ S.last_failed l.fn.shelf;
      stays : (name : List ℕ) → S.holds l.shelf name ≡ S.holds l.fn.shelf name;
    }
