use Rattle.std.proofs.Common.{rules, ◌≡◌, pos, ◌-ℤ◌, ◌*ℤ◌, unsigned_abs, SFits, arith}
use Rattle.std.specs.Int.{w64, w128}
use Rattle.std.proofs.lemmas.Int.{ints, to_z-of_z}
use Rattle.carton_base.proofs.Polynomials.{positive_product}
use Rattle.carton_halfturn.specs.Slopes.{IsBend}
use Rattle.carton_halfturn.proofs.Sizes.{ceil_from, ceil_upto, twice_square}
use Rattle.carton_halfturn.proofs.slopes.bend.Goals as goal

pub overflow_mul-step : goal.overflow_mul-step
overflow_mul-step c = omega (arith, ints)

pub fraction-requires-clause-first : goal.fraction-requires-clause-first
fraction-requires-clause-first c = omega (arith, ints)

pub fraction-requires-clause-positive : goal.fraction-requires-clause-positive
fraction-requires-clause-positive c =
    let d : SFits w64 c.args.f.den = search rules in
    let d128 : SFits w128 c.args.f.den = omega (arith, ints) in
    let den : c.square-den.result ≡ c.args.f.den *ℤ c.args.f.den =
    simp to_z-of_z at c.square-den.ensures.value in
    let p = positive_product c.args.f.den c.args.f.den c.args.f.positive c.args.f.positive in
    omega (arith, ints)

pub returns : goal.returns
returns c =
    let from : SFits w64 c.args.f.from = search rules in
    let to : SFits w64 c.args.f.to = search rules in
    let d : SFits w64 c.args.f.den = search rules in
    let d128 : SFits w128 c.args.f.den = omega (arith, ints) in
    let g : SFits w64 (c.args.f.to -ℤ c.args.f.from) = omega (arith, ints) in
    let g128 : SFits w128 (c.args.f.to -ℤ c.args.f.from) = omega (arith, ints) in
    let h : SFits w128 c.fraction.result.hi = search rules in
    let s : SFits w128 c.square-step.result = search rules in
    let s2 : SFits w128 (pos 2 *ℤ c.square-step.result) = omega (arith, ints) in
    let e : SFits w128 c.square-den.result = search rules in
    let step : c.square-step.result ≡ (c.args.f.to -ℤ c.args.f.from) *ℤ (c.args.f.to -ℤ c.args.f.from) =
    simp to_z-of_z at c.square-step.ensures.value in
    let den : c.square-den.result ≡ c.args.f.den *ℤ c.args.f.den =
    simp to_z-of_z at c.square-den.ensures.value in
    let own : pos (unsigned_abs c.square-den.result) ≡ c.square-den.result = omega (arith, ints) in
    let is : IsBend c.args.f c.fraction.result.hi = rw (own, step, den) at
    (simp to_z-of_z at c.fraction.ensures.up) in
    let p = positive_product c.args.f.den c.args.f.den c.args.f.positive c.args.f.positive in
    let most = twice_square (c.args.f.to -ℤ c.args.f.from) c.args.f.den c.args.f.positive c.requires.near in
    simp to_z-of_z (record {
      bend = is;
      from = ceil_from _ _ _ p (omega (arith, ints)) is;
      upto = ceil_upto _ _ _ _ p most is;
    })
