use Rattle.std.proofs.Common.{SFits, unsigned_abs, arith, rules}
use Rattle.std.specs.Int.{w8}
use Rattle.std.proofs.lemmas.Int.{ints, to_z-of_z}
use Rattle.carton_bodies.proofs.Numbers.{plus, small_total}
use Rattle.carton_bodies.proofs.depth.along.Goals as goal

pub returns-clause-holds : goal.returns-clause-holds
returns-clause-holds c = λ q at.
    let u : SFits w8 c.args.face.now.u = search rules in
    let v : SFits w8 c.args.face.now.v = search rules in
    let s : SFits w8 c.args.face.now.s = search rules in
    let x = (simp to_z-of_z at c.scaled-x.ensures.scaled).holds q.x (unsigned_abs q.w) at.x in
    let y = (simp to_z-of_z at c.scaled-y.ensures.scaled).holds q.y (unsigned_abs q.w) at.y in
    let z = (simp to_z-of_z at c.scaled-z.ensures.scaled).holds q.z (unsigned_abs q.w) at.z in
    rw (c.added-2.ensures.low, c.added-2.ensures.high, c.added.ensures.low, c.added.ensures.high)
    (plus _ _ _ _ _ _ _ (plus _ _ _ _ _ _ _ x y) z)

pub returns-clause-close : goal.returns-clause-close
returns-clause-close c = λ h.
    let x = c.scaled-x.ensures.scaled.close in
    let y = c.scaled-y.ensures.scaled.close in
    let z = c.scaled-z.ensures.scaled.close in
    omega (
      arith,
      ints,
      x,
      y,
      z,
      h.x,
      h.y,
      h.z,
      c.added.ensures.low,
      c.added.ensures.high,
      c.added-2.ensures.low,
      c.added-2.ensures.high,
    )

pub returns-clause-size : goal.returns-clause-size
returns-clause-size c =
    let both = c.added.ensures in
    let all = c.added-2.ensures in
    small_total c.added.result c.added-2.result c.scaled-x.result c.scaled-y.result c.scaled-z.result
    both.low both.high all.low all.high
    c.scaled-x.ensures.size c.scaled-y.ensures.size c.scaled-z.ensures.size
