use Rattle.std.proofs.Common.{subst, SFits, pos, ◌*ℤ◌, arith, rules}
use Rattle.std.specs.Int.{w128}
use Rattle.std.proofs.lemmas.Int.{ints, to_z-of_z}
use Rattle.carton_base.specs.Rounding.{unit}
use Rattle.carton_bodies.specs.Depths.{IsDepthIn}
use Rattle.carton_guide.proofs.holders.look_in.Goals as goal

pub returns-then-depth-ge0-clause-good : goal.returns-then-depth-ge0-clause-good
returns-then-depth-ge0-clause-good c = λ _.
    let told = subst (λ sides. IsDepthIn sides c.args.stroke c.args.step c.args.spot.now c.args.piece.index
    c.args.piece.depth c.depth_in-depth.result) c.faces_of.ensures c.depth_in-depth.ensures in
    let lo : SFits w128 c.depth_in-depth.result.lo = search rules in
    told.inside (let t = simp to_z-of_z at c.if-depth-ge0.true in omega (arith, ints, t))

pub returns-then-depth-from-clause-bad : goal.returns-then-depth-from-clause-bad
returns-then-depth-from-clause-bad c = λ _.
    let told = subst (λ sides. IsDepthIn sides c.args.stroke c.args.step c.args.spot.now c.args.piece.index
    c.args.piece.depth c.depth_in-depth.result) c.faces_of.ensures c.depth_in-depth.ensures in
    let hi : SFits w128 c.depth_in-depth.result.hi = search rules in
    let slack : SFits w128 c.from.result = search rules in
    let room : SFits w128 (c.from.result *ℤ unit) = omega (arith, ints, c.from.ensures, c.ranges.slack) in
    let shallow = simp to_z-of_z at c.if-depth-from.true in
    told.shallow (pos c.args.slack) (omega (arith, ints, shallow, c.from.ensures))
