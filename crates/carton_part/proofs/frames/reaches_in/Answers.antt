use Rattle.carton_part.proofs.Looked.{reach_in}
use Rattle.carton_part.proofs.frames.reaches_in.Goals as goal

pub returns-clause-reach : goal.returns-clause-reach
returns-clause-reach g c = reach_in c.args.carton.now c.args.motion.now c.args.p.0 c.args.frame.0
    c.args.piece.index c.args.piece.depth c.panel.result.now c.reaches.result c.requires.p c.panel.ensures
    c.shrunk-corners.ensures.shape c.reaches.ensures.reaches c.reaches.ensures.far
