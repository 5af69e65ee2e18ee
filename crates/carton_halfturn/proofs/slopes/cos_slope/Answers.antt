use Rattle.carton_model.specs.HalfTurns.{cosine}
use Rattle.carton_halfturn.proofs.Forms.{cosine_form}
use Rattle.carton_halfturn.proofs.Following.{leads}
use Rattle.carton_halfturn.proofs.slopes.cos_slope.Goals as goal

pub returns-clause-leads : goal.returns-clause-leads
returns-clause-leads c = leads cosine cosine_form c.args.f _ _ c.cos_at.result c.cos_at-2.result c.rates.result
    c.ends_of-ends.ensures c.cos_at.ensures.rounded c.cos_at-2.ensures.rounded c.rates.ensures.rate
