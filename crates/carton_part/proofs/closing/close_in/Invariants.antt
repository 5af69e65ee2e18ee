use Rattle.carton_part.specs.Closing.{AreKnown, IsTable, TellAsMuch}
use Rattle.carton_part.proofs.closing.close_in.Given as goal

abbrev pub invariant-loop-a : goal.invariant-loop-a
invariant-loop-a g l = AreKnown l.carton l.low l.high l.known × IsTable l.rows
    × TellAsMuch l.carton l.low l.high l.fn.rows l.rows
