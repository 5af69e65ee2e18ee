use Rattle.std.proofs.Common.{rules, ◌∙◌, SFits}
use Rattle.std.specs.Int.{w128, int_min, int_max}
use Rattle.std.proofs.lemmas.Int.{to_z-of_z}
use Rattle.carton_base.proofs.Floors.{unwrapped}
use Rattle.carton_enclose.proofs.Ends.{ends_fit}
use Rattle.carton_fix.proofs.fix.corners.Goals as goal

pub returns : goal.returns
returns c =
    let a = ends_fit c.args.a.lo c.args.a.hi c.args.a.bounded in
    let lo : SFits w128 c.args.a.lo = a.0 in
    let hi : SFits w128 c.args.a.hi = a.1 in
    let min : SFits w128 c.min.result = search rules in
    let max : SFits w128 c.max.result = search rules in
    let l = c.times-low.result in
    let h = c.times-high.result in
    let least = unwrapped int_min l.lo h.lo c.min.result (search rules) (search rules) c.min.ensures.value in
    let greatest = unwrapped int_max l.hi h.hi c.max.result (search rules) (search rules)
    c.max.ensures.value in
    simp to_z-of_z (record {
      least =
          simp to_z-of_z at
          (least ∙ (λ i. int_min (c.times-low.ensures.least i) (c.times-high.ensures.least i)));
      greatest =
          simp to_z-of_z at
          (greatest ∙ (λ i. int_max (c.times-low.ensures.greatest i) (c.times-high.ensures.greatest i)));
    })
