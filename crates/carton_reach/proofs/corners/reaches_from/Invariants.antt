use Rattle.std.proofs.Common.{ℕ}
use Rattle.carton_reach.specs.Beyond.{Spots}
use Rattle.carton_reach.specs.Reaches.{AreReaches}
use Rattle.carton_reach.specs.Starts.{AreTurnedFrom}
use Rattle.carton_reach.proofs.corners.reaches_from.Given as goal

abbrev pub invariant-loop-k : goal.invariant-loop-k
invariant-loop-k g l = (spots : Spots) (index depth : ℕ)
    → AreTurnedFrom l.turns l.swings l.starts spots index depth
    → AreReaches spots 0 l.k index depth l.all.axes
