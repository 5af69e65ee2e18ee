use Rattle.std.proofs.Common.{arith, ap, subst, length}
use Rattle.std.specs.Prelude.{IfSome}
use Rattle.carton_tree.specs.Trees.{turns_between}
use Rattle.carton_part.specs.Looks.{IsReachIn}
use Rattle.carton_part.proofs.Looked.{reach_in}
use Rattle.carton_stroke.proofs.Rooted.{few_to_root}
use Rattle.carton_stroke.proofs.world.reaches_in_world.Goals as goal

pub unreachable-requires : goal.unreachable-requires
unreachable-requires c =
    let far = c.reaches.ensures.far.0 c.in-None.is in
    let few = few_to_root c.args.carton.now c.args.panel.0 c.panels-count.ensures.carton in
    let root = ap (λ f. length (turns_between c.args.carton.now c.args.panel.0 f)) c.root.ensures in
    omega (arith, far, few, root)

pub returns : goal.returns
returns c =
    subst (λ f. IsReachIn c.args.carton.now c.args.motion.now c.args.panel.0 f c.args.piece.index
    c.args.piece.depth c.in-Some.found) c.root.ensures
    (subst (λ o. IfSome o (IsReachIn c.args.carton.now c.args.motion.now c.args.panel.0 c.root.result.0
    c.args.piece.index c.args.piece.depth)) c.in-Some.is
    (reach_in c.args.carton.now c.args.motion.now c.args.panel.0 c.root.result.0 c.args.piece.index
    c.args.piece.depth c.panel.result.now c.reaches.result c.requires.panel c.panel.ensures
    c.shrunk-corners.ensures.shape c.reaches.ensures.reaches c.reaches.ensures.far))
