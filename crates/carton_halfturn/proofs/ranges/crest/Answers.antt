use Rattle.std.proofs.Common.{inl, inr, arith}
use Rattle.std.proofs.lemmas.Int.{ints}
use Rattle.carton_halfturn.proofs.ranges.crest.Goals as goal

pub returns-then-r-3-clause-crest : goal.returns-then-r-3-clause-crest
returns-then-r-3-clause-crest c =
    inr (inr (inl record {
      short = omega (arith, ints);
      nearer = omega (arith, ints);
      is = omega (arith, ints);
    }))

pub returns-clause-crest : goal.returns-clause-crest
returns-clause-crest c = inr (inr (inr record { nearer = omega (arith, ints); is = omega (arith, ints) }))
