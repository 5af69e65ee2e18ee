use Rattle.carton_part.specs.Walks.{AreSameMoments}
use Rattle.carton_part.proofs.Walks.{Before, left}
use Rattle.carton_part.proofs.pieces.walk.Given as goal

abbrev pub invariant-loop-after : goal.invariant-loop-after
invariant-loop-after g l = record {
  before : Before l.piece.index l.piece.depth (g.L.Look.good l.fn.look);
  same_good : AreSameMoments (g.L.Look.good l.look) (g.L.Look.good l.fn.look);
  same_bad : AreSameMoments (g.L.Look.bad l.look) (g.L.Look.bad l.fn.look);
}

abbrev pub decreases-loop-after : goal.decreases-loop-after
decreases-loop-after g l = left l.piece.index l.piece.depth
