use Rattle.std.proofs.Common.{◌*ℤ◌, SFits, refl}
use Rattle.std.specs.Int.{w128}
use Rattle.std.proofs.lemmas.Int.{to_z-of_z}
use Rattle.carton_base.proofs.Sized.{product_fits, product_size}
use Rattle.carton_base.proofs.arithmetic.product.Goals as goal

pub overflow_mul-result : goal.overflow_mul-result
overflow_mul-result g c =
    let a : SFits w128 c.args.a = c.ranges.a in
    let b : SFits w128 c.args.b = c.ranges.b in
    simp to_z-of_z (product_fits c.args.a c.args.b g.row.M g.row.N c.requires.first c.requires.second
    c.requires.room)

pub returns : goal.returns
returns g c =
    let a : SFits w128 c.args.a = c.ranges.a in
    let b : SFits w128 c.args.b = c.ranges.b in
    let p : SFits w128 (c.args.a *ℤ c.args.b) = product_fits c.args.a c.args.b g.row.M g.row.N
    c.requires.first c.requires.second c.requires.room in
    simp to_z-of_z
    (record {
      value = refl;
      size = product_size c.args.a c.args.b g.row.M g.row.N c.requires.first
          c.requires.second;
    })
