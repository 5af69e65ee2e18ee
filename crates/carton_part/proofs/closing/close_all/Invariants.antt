use Rattle.carton_part.specs.Closing.{AreKnown, IsTable, TellAsMuch}
use Rattle.carton_part.proofs.closing.close_all.Given as goal

abbrev pub invariant-loop-f : goal.invariant-loop-f
invariant-loop-f g l = AreKnown l.carton l.low l.high l.known × IsTable l.rows
    × TellAsMuch l.carton l.low l.high l.fn.rows l.rows
