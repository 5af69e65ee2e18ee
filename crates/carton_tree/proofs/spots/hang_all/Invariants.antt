use Rattle.std.proofs.Common.{ℕ}
use Rattle.carton_tree.specs.Steps.{AreSpots, AreReached}
use Rattle.carton_tree.proofs.spots.hang_all.Given as goal

abbrev pub invariant-loop-i : goal.invariant-loop-i
invariant-loop-i l = (root : ℕ) → AreSpots l.hinges root l.r l.initial.spots
    → AreReached l.hinges root l.r l.i l.spots
