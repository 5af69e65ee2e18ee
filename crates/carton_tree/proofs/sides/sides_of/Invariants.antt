use Rattle.std.proofs.Common.{◌≡◌, length}
use Rattle.carton_tree.specs.Steps.{AreFirstSides}
use Rattle.carton_tree.proofs.sides.sides_of.Given as goal

abbrev pub invariant-loop-i : goal.invariant-loop-i
invariant-loop-i l =
    record { made : AreFirstSides l.raw l.face.0 l.sides.items; count : length l.sides.items ≡ l.i }
