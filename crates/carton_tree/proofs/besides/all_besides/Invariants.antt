use Rattle.std.proofs.Common.{◌≡◌, length}
use Rattle.carton_tree.specs.Steps.{AreBesides}
use Rattle.carton_tree.proofs.besides.all_besides.Given as goal

abbrev pub invariant-loop-k : goal.invariant-loop-k
invariant-loop-k l = record { made : AreBesides l.raw l.all.items; count : length l.all.items ≡ l.k }
