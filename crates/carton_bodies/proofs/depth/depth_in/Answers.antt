use Rattle.std.proofs.Common.{SFits, pos, ◌<ℤ◌, arith, rules}
use Rattle.std.specs.Int.{w128}
use Rattle.std.proofs.lemmas.Int.{ints, to_z-of_z}
use Rattle.std.proofs.lemmas.List.{get_or_default}
use Rattle.carton_bodies.proofs.Depths.{depth_in_one, depth_in_more, depth_in_all, depth_in_some}
use Rattle.carton_bodies.proofs.depth.depth_in.Goals as goal

pub loop-k-init : goal.loop-k-init
loop-k-init c =
    depth_in_one c.args.faces.now c.args.stroke c.args.step c.args.piece.index c.args.piece.depth
    c.args.spot.now _ c.depth_at-least.result c.requires.some
    (get_or_default c.args.faces.now 0 _ _ c.requires.some) c.depth_at-least.ensures

pub loop-k-preserved : goal.loop-k-preserved
loop-k-preserved c =
    depth_in_more c.args.faces.now c.args.stroke c.args.step c.args.piece.index c.args.piece.depth
    c.args.spot.now c.loop-k.k _ c.loop-k.least c.depth_at.result c.lesser-least.result c.loop-k-test.true
    (get_or_default c.args.faces.now c.loop-k.k _ _ c.loop-k-test.true) c.lesser-least.ensures.low
    c.lesser-least.ensures.high c.loop-k.invariant c.depth_at.ensures

pub returns : goal.returns
returns c = depth_in_all c.args.faces.now c.args.stroke c.args.step c.args.piece.index c.args.piece.depth
    c.args.spot.now c.loop-k.k c.loop-k.least c.loop-k-test.false c.loop-k.invariant

pub returns-then-least-lt0 : goal.returns-then-least-lt0
returns-then-least-lt0 c =
    let hi : SFits w128 c.loop-k.least.hi = search rules in
    let out : c.loop-k.least.hi <ℤ pos 0 = let t = simp to_z-of_z at c.if-least-lt0.true in
    omega (arith, ints, t) in
    depth_in_some c.args.faces.now c.args.stroke c.args.step c.args.piece.index c.args.piece.depth
    c.args.spot.now c.loop-k.k c.loop-k.least out c.loop-k.invariant
