use Rattle.std.specs.Prelude.{All}
use Rattle.carton_base.specs.declared.numbers.Triple.{Triple}
use Rattle.carton_panels.proofs.Parted.{IsFlatFarther}
use Rattle.carton_base.proofs.Loops.{AllBelow}
use Rattle.carton_panels.proofs.parting.parts.Given as goal

abbrev pub invariant-loop-p : goal.invariant-loop-p
invariant-loop-p l = AllBelow (λ (p : Triple). All (IsFlatFarther l.h.u l.h.v p) l.second) l.first l.p-index
