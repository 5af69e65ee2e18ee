use Rattle.carton_base.proofs.Loops.{AllBelow}
use Rattle.carton_fixture.specs.Choices.{IsCandidate}
use Rattle.carton_fixture.proofs.candidates.first_stranger.Given as goal

abbrev pub invariant-loop-k : goal.invariant-loop-k
invariant-loop-k l = AllBelow (IsCandidate l.candidates) l.bodies l.k
