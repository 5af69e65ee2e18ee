use Rattle.carton_stroke.specs.Steps.{AreKnown}
use Rattle.carton_stroke.proofs.world.known_over.Given as goal

abbrev pub invariant-loop-p : goal.invariant-loop-p
invariant-loop-p l = AreKnown l.carton l.motion l.carton.root l.known
