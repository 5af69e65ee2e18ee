use Rattle.std.proofs.Common.{arith}
use Rattle.std.proofs.lemmas.Int.{ints}
use Rattle.carton_halfturn.proofs.slopes.change.Goals as goal

pub invariant_of-result : goal.invariant_of-result
invariant_of-result c = record { ordered = omega (arith, ints) }

pub returns : goal.returns
returns c = record {
  low = omega (arith, ints);
  high = omega (arith, ints);
  within = record { low = omega (arith, ints); high = omega (arith, ints) };
}
