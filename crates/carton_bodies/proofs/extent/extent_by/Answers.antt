use Rattle.std.proofs.Common.{rules, ◌≡◌, ◌∙◌, ◌+ℤ◌, ◌*ℤ◌, SFits}
use Rattle.std.specs.Int.{w128, int_min, int_max}
use Rattle.std.proofs.lemmas.Int.{to_z-of_z}
use Rattle.carton_base.specs.Rounding.{unit}
use Rattle.carton_bodies.proofs.extent.extent_by.Goals as goal

pub returns : goal.returns
returns c =
    let s = c.args.speed in
    let t = c.args.times in
    let ends = c.args.ends in
    let way = c.gone-way.result in
    let fl : SFits w128 ends.least = search rules in
    let fg : SFits w128 ends.greatest = search rules in
    let fs : SFits w128 c.args.speed = c.ranges.speed in
    let fn : SFits w128 c.product-near.result = search rules in
    let ff : SFits w128 c.product-far.result = search rules in
    let fb : SFits w128 way.least = search rules in
    let fa : SFits w128 way.greatest = search rules in
    let f1 : SFits w128 c.sum.result = search rules in
    let f2 : SFits w128 c.sum-2.result = search rules in
    let f3 : SFits w128 c.sum-3.result = search rules in
    let f4 : SFits w128 c.sum-4.result = search rules in
    let near : c.product-near.result ≡ ends.least *ℤ unit = simp to_z-of_z at c.product-near.ensures.value in
    let far : c.product-far.result ≡ ends.greatest *ℤ unit = simp to_z-of_z at c.product-far.ensures.value in
    let low : way.least ≡ int_min (s *ℤ t.from) (s *ℤ t.upto) = simp to_z-of_z at c.gone-way.ensures.least in
    let high : way.greatest ≡ int_max (s *ℤ t.from) (s *ℤ t.upto) =
    simp to_z-of_z at c.gone-way.ensures.greatest in
    let e1 : c.sum.result ≡ c.product-near.result +ℤ way.least = simp to_z-of_z at c.sum.ensures.value in
    let e2 : c.sum-2.result ≡ c.product-near.result +ℤ way.greatest =
    simp to_z-of_z at c.sum-2.ensures.value in
    let e3 : c.sum-3.result ≡ c.product-far.result +ℤ way.least = simp to_z-of_z at c.sum-3.ensures.value in
    let e4 : c.sum-4.result ≡ c.product-far.result +ℤ way.greatest =
    simp to_z-of_z at c.sum-4.ensures.value in
    simp to_z-of_z (record {
      least_low = e1 ∙ (λ i. near i +ℤ low i);
      least_high = e2 ∙ (λ i. near i +ℤ high i);
      greatest_low = e3 ∙ (λ i. far i +ℤ low i);
      greatest_high = e4 ∙ (λ i. far i +ℤ high i);
    })
