use Rattle.carton_part.proofs.Looked.{reach_in}
use Rattle.carton_part.proofs.frames.reaches_between.Goals as goal

pub returns : goal.returns
returns g c = λ motion m. reach_in c.args.carton.now motion c.args.p.0 c.args.frame.0 0 0 c.panel.result.now
    c.reaches_within.result c.requires.p c.panel.ensures c.shrunk-corners.ensures.shape
    (c.reaches_within.ensures.reaches motion m) c.reaches_within.ensures.far
