use Rattle.std.proofs.Common.{◌≡◌, length}
use Rattle.carton_tree.specs.Steps.{AreAllSides}
use Rattle.carton_tree.proofs.sides.all_sides.Given as goal

abbrev pub invariant-loop-face : goal.invariant-loop-face
invariant-loop-face l = record { made : AreAllSides l.raw l.all.items; count : length l.all.items ≡ l.face }
