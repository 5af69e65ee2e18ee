use Rattle.std.proofs.Common.{◌∙◌, ap, SFits, ◌*ℤ◌, rules}
use Rattle.std.specs.Int.{w8, w128}
use Rattle.std.proofs.lemmas.Int.{to_z-of_z}
use Rattle.carton_bodies.proofs.depth.times.Goals as goal

pub returns-clause-value : goal.returns-clause-value
returns-clause-value c =
    let k : SFits w8 c.args.c = c.ranges.c in
    let x : SFits w128 c.args.x = c.ranges.x in
    let wide : SFits w128 c.from.result = search rules in
    let p : SFits w128 c.product.result = search rules in
    let e = simp to_z-of_z at c.from.ensures in
    let v = simp to_z-of_z at c.product.ensures.value in
    simp to_z-of_z (v ∙ ap (λ z. z *ℤ c.args.x) e)
