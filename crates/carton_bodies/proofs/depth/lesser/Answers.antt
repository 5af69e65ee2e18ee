use Rattle.std.proofs.Common.{arith}
use Rattle.std.proofs.lemmas.Int.{ints, clamps}
use Rattle.carton_bodies.proofs.depth.lesser.Goals as goal

pub invariant_of-result : goal.invariant_of-result
invariant_of-result c =
    omega (arith, ints, clamps, c.min.ensures, c.min-2.ensures, c.args.a.ordered, c.args.b.ordered)
