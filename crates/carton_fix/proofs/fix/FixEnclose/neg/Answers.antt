use Rattle.std.proofs.Common.{arith, ◌≡◌, SFits, pos, neg_ℤ, ◌-ℤ◌}
use Rattle.std.specs.Int.{w128}
use Rattle.std.proofs.lemmas.Int.{ints, to_z-of_z}
use Rattle.carton_enclose.proofs.Ends.{ends_fit, holds_negation}
use Rattle.carton_fix.proofs.fix.FixEnclose.neg.Goals as goal

pub returns-clause-holds : goal.returns-clause-holds
returns-clause-holds c = λ n d x v m p h.
    let e = ends_fit c.args.self.lo c.args.self.hi c.args.self.bounded in
    let a0 : SFits w128 c.args.self.lo = e.0 in
    let a1 : SFits w128 c.args.self.hi = e.1 in
    let n0 : pos 0 -ℤ c.args.self.lo ≡ neg_ℤ c.args.self.lo = omega (arith, ints) in
    let n1 : pos 0 -ℤ c.args.self.hi ≡ neg_ℤ c.args.self.hi = omega (arith, ints) in
    let lo : SFits w128 (neg_ℤ c.args.self.lo) = omega (arith, ints, c.requires) in
    let hi : SFits w128 (neg_ℤ c.args.self.hi) = omega (arith, ints, c.requires) in
    simp (to_z-of_z, n0, n1) (holds_negation c.args.self.lo c.args.self.hi x v h)
