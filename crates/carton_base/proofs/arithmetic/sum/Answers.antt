use Rattle.std.proofs.Common.{arith}
use Rattle.std.proofs.lemmas.Int.{ints}
use Rattle.carton_base.proofs.Sized.{sum_fits}
use Rattle.carton_base.proofs.arithmetic.sum.Goals as goal

pub overflow_add-result : goal.overflow_add-result
overflow_add-result g c =
    omega (arith, ints, sum_fits c.args.a c.args.b g.row.N c.requires.first c.requires.second c.requires.room)

pub returns-clause-value : goal.returns-clause-value
returns-clause-value g c =
    omega (arith, ints, sum_fits c.args.a c.args.b g.row.N c.requires.first c.requires.second c.requires.room)
