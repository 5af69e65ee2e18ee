use Rattle.carton_model.specs.HalfTurns.{cosine}
use Rattle.carton_halfturn.proofs.Forms.{cosine_form}
use Rattle.carton_halfturn.proofs.Peaks.{cosine_peak, cosine_trough}
use Rattle.carton_halfturn.proofs.Enclosing.{Over, over_span}
use Rattle.carton_halfturn.proofs.bounds.cos_bounds.Goals as goal

over : (c : goal.After-cos_at-2) → Over cosine c.args.f c.cos_at.result.lo c.cos_at-2.result.hi
over c =
    let r = c.range_of-range.result in
    over_span cosine cosine_form c.args.f r c.nearest.result c.farthest.result c.cos_at.result c.cos_at-2.result
    c.range_of-range.ensures c.nearest.ensures.den c.farthest.ensures.den (cosine_peak r _ c.nearest.ensures.nearest)
    (cosine_trough r _ c.farthest.ensures.farthest) c.cos_at.ensures.rounded c.cos_at-2.ensures.rounded

pub between-requires : goal.between-requires
between-requires c = (over c).ordered

pub returns-clause-encloses : goal.returns-clause-encloses
returns-clause-encloses c = rw (c.between.ensures.lo, c.between.ensures.hi) (over c.before).encloses

pub returns-clause-spread : goal.returns-clause-spread
returns-clause-spread c = rw (c.between.ensures.lo, c.between.ensures.hi) (over c.before).spread
