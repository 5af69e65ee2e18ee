use Rattle.std.proofs.Common.{arith}
use Rattle.std.proofs.lemmas.Int.{ints}
use Rattle.carton_number_tests.proofs.half_turns.moved.Goals as goal

pub span-requires-clause-step : goal.span-requires-clause-step
span-requires-clause-step c = omega (arith, ints)
