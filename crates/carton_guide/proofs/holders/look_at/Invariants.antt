use Rattle.std.proofs.Common.{◌≡◌, ◌≢◌, ◌<◌, pos}
use Rattle.carton_part.specs.declared.sight.Sight.TheVariants.{Good, Bad, Open}
use Rattle.carton_guide.proofs.Looks.{IsShallowBelow}
use Rattle.carton_guide.proofs.holders.look_at.Given as goal

abbrev pub invariant-loop-k : goal.invariant-loop-k
invariant-loop-k l = record {
  not_good : l.seen ≢ Good;
  deep : l.seen ≡ Open → l.piece.depth < 36;
  bad : l.seen ≡ Bad
      → IsShallowBelow l.k (pos l.holders.slack) l.holders.stroke l.holders.bodies.now l.holders.chosen.now
      l.step l.spot l.piece.index l.piece.depth;
}
