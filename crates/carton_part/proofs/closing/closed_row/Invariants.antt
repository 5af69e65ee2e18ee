use Rattle.std.proofs.Common.{◌≡◌, length}
use Rattle.carton_part.specs.Closing.{AreKnown, TellsAsMuch}
use Rattle.carton_part.proofs.closing.closed_row.Given as goal

abbrev pub invariant-loop-b : goal.invariant-loop-b
invariant-loop-b g l = AreKnown l.carton l.low l.high l.known
    × TellsAsMuch l.carton l.low l.high l.a.0 l.fn.row l.left × (length l.left ≡ 24)
