use Rattle.std.proofs.Common.{unsigned_abs, arith}
use Rattle.std.proofs.lemmas.Int.{ints}
use Rattle.carton_halfturn.proofs.HalfPairs.{half_middle, half_over, half_under}
use Rattle.carton_halfturn.proofs.values.half_pair.Goals as goal

pub returns-then-n-d-clause-c : goal.returns-then-n-d-clause-c
returns-then-n-d-clause-c c =
    let h = half_over c.args.f.num (unsigned_abs c.args.f.den) (omega (arith, ints)) in
    omega (arith, ints, h.first)

pub returns-then-n-d-clause-s : goal.returns-then-n-d-clause-s
returns-then-n-d-clause-s c =
    let h = half_over c.args.f.num (unsigned_abs c.args.f.den) (omega (arith, ints)) in
    omega (arith, ints, h.second)

pub returns-then-n-d-2-clause-c : goal.returns-then-n-d-2-clause-c
returns-then-n-d-2-clause-c c =
    let h = half_under c.args.f.num (unsigned_abs c.args.f.den) (omega (arith, ints)) in
    omega (arith, ints, h.first)

pub returns-then-n-d-2-clause-s : goal.returns-then-n-d-2-clause-s
returns-then-n-d-2-clause-s c =
    let h = half_under c.args.f.num (unsigned_abs c.args.f.den) (omega (arith, ints)) in
    omega (arith, ints, h.second)

pub returns-else-n-d-2-clause-c : goal.returns-else-n-d-2-clause-c
returns-else-n-d-2-clause-c c =
    let h = half_middle c.args.f.num (unsigned_abs c.args.f.den) (omega (arith, ints)) in
    omega (arith, ints, h.first)

pub returns-else-n-d-2-clause-s : goal.returns-else-n-d-2-clause-s
returns-else-n-d-2-clause-s c =
    let h = half_middle c.args.f.num (unsigned_abs c.args.f.den) (omega (arith, ints)) in
    omega (arith, ints, h.second)
