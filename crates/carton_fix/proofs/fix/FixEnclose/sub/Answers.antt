use Rattle.std.proofs.Common.{arith, ◌≡◌, ◌+ℤ◌, ◌-ℤ◌, neg_ℤ}
use Rattle.std.proofs.lemmas.Int.{ints}
use Rattle.carton_fix.proofs.fix.FixEnclose.sub.Goals as goal

pub returns-clause-holds : goal.returns-clause-holds
returns-clause-holds c = λ n d x y w m p hx hy.
    let e : x +ℤ neg_ℤ y ≡ x -ℤ y = omega (arith, ints) in
    rw e at (c.add.ensures.holds n d x (neg_ℤ y) w m p hx (c.neg.ensures.holds n d y w m p hy))
