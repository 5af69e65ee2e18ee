use Rattle.std.proofs.Common.{◌≡◌, ◌≢◌, ◌<◌}
use Rattle.carton_part.specs.declared.sight.Sight.TheVariants.{Good, Bad, Open}
use Rattle.carton_part.proofs.Ways.{UnpartedBelow}
use Rattle.carton_part.proofs.pair.PairLook.see.Given as goal

abbrev pub invariant-loop-f : goal.invariant-loop-f
invariant-loop-f g l =
    let p = l.self in
    let UpTo = UnpartedBelow p.carton.now p.motion.now p.a.0 p.b.0 p.gap p.slack l.piece.index
    l.piece.depth in
    record {
      not_good : l.seen ≢ Good;
      deep : l.seen ≡ Open → l.piece.depth < 36;
      bad : l.seen ≡ Bad → UpTo l.f;
    }
