use Rattle.std.proofs.Common.{ℕ}
use Rattle.carton_base.proofs.Loops.{NoneBelow}
use Rattle.carton_panels.specs.Around.{Step, around}
use Rattle.carton_panels.specs.Creases.{HasEnds}
use Rattle.carton_panels.proofs.creases.has_side.Given as goal

abbrev pub invariant-loop-k : goal.invariant-loop-k
invariant-loop-k l = NoneBelow (λ (s : Step ℕ). HasEnds l.edge s.from s.to) (around l.vertices) l.k
