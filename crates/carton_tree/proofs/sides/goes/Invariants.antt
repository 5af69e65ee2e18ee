use Rattle.std.proofs.Common.{◌≡◌, ℕ}
use Rattle.carton_base.proofs.Loops.{NoneBelow}
use Rattle.carton_panels.specs.Around.{Step, around}
use Rattle.carton_tree.proofs.sides.goes.Given as goal

abbrev pub invariant-loop-i : goal.invariant-loop-i
invariant-loop-i l = NoneBelow (λ (s : Step ℕ). s ≡ record { from = l.p; to = l.q }) (around l.vertices) l.i
