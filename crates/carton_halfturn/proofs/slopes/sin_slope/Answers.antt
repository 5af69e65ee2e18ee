use Rattle.carton_model.specs.HalfTurns.{sine}
use Rattle.carton_halfturn.proofs.Forms.{sine_form}
use Rattle.carton_halfturn.proofs.Following.{leads}
use Rattle.carton_halfturn.proofs.slopes.sin_slope.Goals as goal

pub returns-clause-leads : goal.returns-clause-leads
returns-clause-leads c = leads sine sine_form c.args.f _ _ c.sin_at.result c.sin_at-2.result c.rates.result
    c.ends_of-ends.ensures c.sin_at.ensures.rounded c.sin_at-2.ensures.rounded c.rates.ensures.rate
