use Rattle.std.proofs.Common.{arith, ◌≡◌, ◌∙◌, inr, SFits, ℤ, pos, neg_ℤ, ◌-ℤ◌}
use Rattle.std.specs.Int.{w128}
use Rattle.std.proofs.lemmas.Int.{ints, to_z-of_z}
use Rattle.carton_panels.specs.Crossings.{HasParts}
use Rattle.carton_panels.proofs.crossings.point.Goals as goal

-- less than nothing
negative : (z : ℤ) → pos 0 -ℤ z ≡ neg_ℤ z
negative z = omega (arith, ints)

pub returns-then-w-lt0 : goal.returns-then-w-lt0
returns-then-w-lt0 c =
    let x : SFits w128 c.args.x = c.ranges.x in
    let y : SFits w128 c.args.y = c.ranges.y in
    let w : SFits w128 c.args.w = c.ranges.w in
    let nx : SFits w128 (pos 0 -ℤ c.args.x) = omega (arith, ints) in
    let ny : SFits w128 (pos 0 -ℤ c.args.y) = omega (arith, ints) in
    let nw : SFits w128 (pos 0 -ℤ c.args.w) = omega (arith, ints) in
    let t = c.triple-then-w-lt0.result in
    let h : HasParts t (pos 0 -ℤ c.args.x) (pos 0 -ℤ c.args.y) (pos 0 -ℤ c.args.w) =
    simp to_z-of_z at c.triple-then-w-lt0.ensures.parts in (
      c.triple-then-w-lt0.ensures.small,
      inr
          (record {
            x_part = h.x_part ∙ negative c.args.x;
            y_part = h.y_part ∙ negative c.args.y;
            w_part = h.w_part ∙ negative c.args.w;
          }),
    )
