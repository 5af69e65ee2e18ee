use Rattle.std.proofs.Common.{arith}
use Rattle.std.proofs.lemmas.Int.{ints}
use Rattle.carton_enclose.proofs.Ends.{holds_sum, size_sum, spread_sum}
use Rattle.carton_fix.proofs.Corners.{added}
use Rattle.carton_fix.proofs.fix.FixEnclose.add.Goals as goal

pub invariant_of-result : goal.invariant_of-result
invariant_of-result c =
    let a = c.args.self in
    let b = c.args.other in
    let s = added a.lo a.hi b.lo b.hi c.requires.left c.requires.right in
    rw (s.0, s.1) (record {
      ordered = omega (arith, ints, a.ordered, b.ordered);
      bounded = omega (arith, ints, c.requires.left, c.requires.right);
    })

pub returns : goal.returns
returns c =
    let a = c.args.self in
    let b = c.args.other in
    let s = added a.lo a.hi b.lo b.hi c.requires.left c.requires.right in
    rw (s.0, s.1) (record {
      holds = λ n d x y w m p hx hy. holds_sum a.lo a.hi b.lo b.hi x y w hx hy;
      size = size_sum a.lo a.hi b.lo b.hi;
      spread = spread_sum a.lo a.hi b.lo b.hi;
    })
