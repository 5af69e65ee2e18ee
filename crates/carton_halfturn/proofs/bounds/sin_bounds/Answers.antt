use Rattle.carton_model.specs.HalfTurns.{sine}
use Rattle.carton_halfturn.proofs.Forms.{sine_form}
use Rattle.carton_halfturn.proofs.Peaks.{sine_peak, sine_trough}
use Rattle.carton_halfturn.proofs.Enclosing.{Over, over_span}
use Rattle.carton_halfturn.proofs.bounds.sin_bounds.Goals as goal

over : (c : goal.After-sin_at-2) → Over sine c.args.f c.sin_at.result.lo c.sin_at-2.result.hi
over c =
    let r = c.range_of-folds.result in
    over_span sine sine_form c.args.f r c.crest.result c.trough.result c.sin_at.result c.sin_at-2.result
    c.range_of-folds.ensures c.crest.ensures.den c.trough.ensures.den (sine_peak r _ c.crest.ensures.crest)
    (sine_trough r _ c.trough.ensures.trough) c.sin_at.ensures.rounded c.sin_at-2.ensures.rounded

pub between-requires : goal.between-requires
between-requires c = (over c).ordered

pub returns-clause-encloses : goal.returns-clause-encloses
returns-clause-encloses c = rw (c.between.ensures.lo, c.between.ensures.hi) (over c.before).encloses

pub returns-clause-spread : goal.returns-clause-spread
returns-clause-spread c = rw (c.between.ensures.lo, c.between.ensures.hi) (over c.before).spread
