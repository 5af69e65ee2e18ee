use Rattle.carton_text.specs.PlanMoves.{IsStrideFrom}
use Rattle.carton_check.proofs.strides.is_within_stride.Given as goal

abbrev pub invariant-loop-k : goal.invariant-loop-k
invariant-loop-k l = IsStrideFrom l.k l.stride l.from l.to
