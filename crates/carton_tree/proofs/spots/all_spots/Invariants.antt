use Rattle.carton_tree.specs.Steps.{AreSpots}
use Rattle.carton_tree.proofs.spots.all_spots.Given as goal

abbrev pub invariant-loop-r : goal.invariant-loop-r
invariant-loop-r l = AreSpots l.hinges l.fn.root.0 l.r l.spots
