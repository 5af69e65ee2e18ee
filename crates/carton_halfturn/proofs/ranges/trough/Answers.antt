use Rattle.std.proofs.Common.{◌≡◌, neg_ℤ, arith}
use Rattle.std.proofs.lemmas.Int.{ints}
use Rattle.carton_halfturn.proofs.ranges.trough.Goals as goal

pub returns-clause-trough : goal.returns-clause-trough
returns-clause-trough c =
    let n : c.opposite.result.num ≡ neg_ℤ c.crest.result.num = c.opposite.ensures.num in
    let e : neg_ℤ c.opposite.result.num ≡ c.crest.result.num = omega (arith, ints) in
    rw (e, ← c.turned.ensures.low, ← c.turned.ensures.high, ← c.turned.ensures.den) c.crest.ensures.crest
