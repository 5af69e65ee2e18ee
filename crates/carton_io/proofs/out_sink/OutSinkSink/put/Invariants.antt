use Rattle.std.proofs.Common.{◌≡◌, ◌≤◌, ◌-◌, length, take}
use Rattle.std.specs.Io.KnownBytes.{Appends}
use Rattle.carton_io.proofs.out_sink.OutSinkSink.put.Given as goal

abbrev pub invariant-loop-at : goal.invariant-loop-at
invariant-loop-at g l = (l.at ≤ length l.piece) × (l.self.faults ≡ l.initial.self.faults)
    × Appends (g.W.Write.contents l.initial.self.out) (g.W.Write.contents l.self.out) (take l.at l.piece)

abbrev pub decreases-loop-at : goal.decreases-loop-at
decreases-loop-at g l = length l.piece - l.at
