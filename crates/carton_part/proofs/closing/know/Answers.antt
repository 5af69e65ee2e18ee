use Rattle.std.proofs.Common.{arith}
use Rattle.carton_part.proofs.Closed.{with_reach}
use Rattle.carton_part.proofs.closing.know.Goals as goal

pub returns-then-not-is_placed_in : goal.returns-then-not-is_placed_in
returns-then-not-is_placed_in g c = with_reach c.args.carton.now c.args.low.now c.args.high.now c.args.p.0
    c.args.known.now c.placed_in.result c.requires.known
    (omega (arith, c.requires.known.count, c.requires.few, c.requires.p)) c.placed_in.ensures
