use Rattle.carton_guide.proofs.Banded.{banded_motion}
use Rattle.carton_guide.proofs.bands.banded_move.Goals as goal

pub returns-clause-motion : goal.returns-clause-motion
returns-clause-motion c = banded_motion c.args.end c.args.band c.args.place c.args.from.now c.args.to.now _
    c.requires.from c.requires.to c.requires.one_grid c.requires.steps c.requires.from_band c.requires.to_band
    c.banded.ensures.grid c.banded.ensures.stops c.banded-2.ensures.grid c.banded-2.ensures.stops
