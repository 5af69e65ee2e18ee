use Rattle.carton_base.proofs.Loops.{AllBelow}
use Rattle.carton_guide.specs.Notes.{IsHeld}
use Rattle.carton_fixture.proofs.asking.first_unheld.Given as goal

abbrev pub invariant-loop-k : goal.invariant-loop-k
invariant-loop-k l = AllBelow (λ g. IsHeld l.carton l.plan.states g l.catalogue.stroke l.bodies l.chosen)
    l.guides l.k
