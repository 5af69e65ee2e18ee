use Rattle.std.proofs.Common.{◌≡◌}
use Rattle.std.specs.Io.KnownBytes.{Keeps}
use Rattle.carton_io.proofs.out_sink.OutSink.write_some.Given as goal

abbrev pub invariant-loop : goal.invariant-loop
invariant-loop g l = (l.self.faults ≡ l.initial.self.faults)
    × Keeps (g.W.Write.contents l.initial.self.out) (g.W.Write.contents l.self.out)
