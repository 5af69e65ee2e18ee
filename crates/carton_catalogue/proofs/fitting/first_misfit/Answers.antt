use Rattle.carton_catalogue.specs.Fits.{FitsGuide}
use Rattle.carton_catalogue.proofs.Misfits.{all_from_places}
use Rattle.carton_catalogue.proofs.fitting.first_misfit.Goals as goal

pub returns : goal.returns
returns c = all_from_places (FitsGuide c.args.carton.now c.args.states.now) c.args.guides.now c.loop-n.n
    c.loop-n-test.false c.loop-n.invariant
