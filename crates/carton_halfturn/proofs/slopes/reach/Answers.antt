use Rattle.std.proofs.Common.{rules, ◌≡◌, pos, ◌-ℤ◌, ◌*ℤ◌, unsigned_abs, SFits, arith}
use Rattle.std.specs.Int.{w64, w128}
use Rattle.std.proofs.lemmas.Int.{ints, to_z-of_z}
use Rattle.carton_halfturn.specs.Slopes.{IsReach}
use Rattle.carton_halfturn.proofs.Sizes.{ceil_from, ceil_upto, most_reach}
use Rattle.carton_halfturn.proofs.slopes.reach.Goals as goal

pub returns : goal.returns
returns c =
    let f = c.args.f in
    let from : SFits w64 c.args.f.from = search rules in
    let to : SFits w64 c.args.f.to = search rules in
    let d : SFits w64 c.args.f.den = search rules in
    let d128 : SFits w128 c.args.f.den = omega (arith, ints) in
    let g : SFits w64 (c.args.f.to -ℤ c.args.f.from) = omega (arith, ints) in
    let g128 : SFits w128 (c.args.f.to -ℤ c.args.f.from) = omega (arith, ints) in
    let h : SFits w128 c.fraction.result.hi = search rules in
    let s : SFits w128 c.abs.result = search rules in
    let size : c.abs.result ≡ pos (unsigned_abs (c.args.f.to -ℤ c.args.f.from)) =
    simp to_z-of_z at c.abs.ensures.value in
    let s2 : SFits w128 (pos 2 *ℤ c.abs.result) = omega (arith, ints) in
    let own : pos (unsigned_abs c.args.f.den) ≡ c.args.f.den = omega (arith, ints) in
    let is : IsReach c.args.f c.fraction.result.hi =
    rw (own, size) at (simp to_z-of_z at c.fraction.ensures.up) in
    simp to_z-of_z (record {
      reach = is;
      from = ceil_from _ _ _ f.positive (omega (arith, ints)) is;
      upto = ceil_upto _ _ _ _ f.positive (most_reach f) is;
    })
