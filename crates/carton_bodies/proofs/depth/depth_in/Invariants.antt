use Rattle.carton_bodies.proofs.Depths.{IsDepthInFirst}
use Rattle.carton_bodies.proofs.depth.depth_in.Given as goal

abbrev pub invariant-loop-k : goal.invariant-loop-k
invariant-loop-k l = IsDepthInFirst l.faces l.k l.stroke l.step l.spot l.piece.index l.piece.depth l.least
