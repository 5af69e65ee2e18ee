use Rattle.std.proofs.Common.{arith}
use Rattle.std.proofs.lemmas.Int.{ints}
use Rattle.carton_base.proofs.Sized.{size_within}
use Rattle.carton_base.proofs.arithmetic.difference.Goals as goal

pub overflow_sub-b : goal.overflow_sub-b
overflow_sub-b g c = omega (arith, ints, size_within c.args.b g.row.N c.requires.second c.requires.room)

pub returns-clause-value : goal.returns-clause-value
returns-clause-value g c =
    let b = size_within c.args.b g.row.N c.requires.second c.requires.room in
    omega (arith, ints, b, c.sum.ensures.value)
