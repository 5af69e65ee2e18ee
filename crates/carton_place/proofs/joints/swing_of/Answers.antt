use Rattle.carton_model.specs.HalfTurns.{cosine, sine}
use Rattle.carton_place.proofs.Ramps.{on_ramp, meets_at_first, some_first, some_squares_at}
use Rattle.carton_place.proofs.joints.swing_of.Goals as goal

pub invariant_of-cos-clause-meets_below : goal.invariant_of-cos-clause-meets_below
invariant_of-cos-clause-meets_below c =
    (meets_at_first cosine c.args.f _ _ _ _ c.cos_start.ensures.encloses c.cos_bounds.ensures.encloses).0

pub invariant_of-cos-clause-meets_above : goal.invariant_of-cos-clause-meets_above
invariant_of-cos-clause-meets_above c =
    (meets_at_first cosine c.args.f _ _ _ _ c.cos_start.ensures.encloses c.cos_bounds.ensures.encloses).1

pub invariant_of-sin-clause-meets_below : goal.invariant_of-sin-clause-meets_below
invariant_of-sin-clause-meets_below c =
    (meets_at_first sine c.args.f _ _ _ _ c.sin_start.ensures.encloses c.sin_bounds.ensures.encloses).0

pub invariant_of-sin-clause-meets_above : goal.invariant_of-sin-clause-meets_above
invariant_of-sin-clause-meets_above c =
    (meets_at_first sine c.args.f _ _ _ _ c.sin_start.ensures.encloses c.sin_bounds.ensures.encloses).1

pub returns-clause-holds : goal.returns-clause-holds
returns-clause-holds c = λ n d m. record {
  positive = some_squares_at c.args.f n d m;
  cos = on_ramp _ _ _ n d _ _ (some_first c.args.f) c.cos_start.ensures.encloses
      (c.cos_bounds.ensures.encloses n d m) (c.cos_slope.ensures.leads n d m);
  sin = on_ramp _ _ _ n d _ _ (some_first c.args.f) c.sin_start.ensures.encloses
      (c.sin_bounds.ensures.encloses n d m) (c.sin_slope.ensures.leads n d m);
}
