use Rattle.carton_part.proofs.Ways.{UnpartedBelow}
use Rattle.carton_part.proofs.pair.Pair.see_first.Given as goal

abbrev pub invariant-loop-f : goal.invariant-loop-f
invariant-loop-f g l =
    let p = l.self in
    UnpartedBelow p.carton.now p.motion.now p.a.0 p.b.0 p.gap p.slack l.piece.index l.piece.depth l.f
