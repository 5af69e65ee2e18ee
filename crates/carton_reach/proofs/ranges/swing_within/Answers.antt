use Rattle.carton_place.proofs.Ramps.{some_squares_at}
use Rattle.carton_reach.proofs.Passing.{on_level}
use Rattle.carton_reach.proofs.ranges.swing_within.Goals as goal

pub returns : goal.returns
returns c = λ m e n d at i. record {
  positive = some_squares_at c.args.f m e at;
  cos = on_level c.level.result c.cos_bounds.result n d _ _ (some_squares_at c.args.f m e at)
      c.level.ensures.start c.level.ensures.slope_low c.level.ensures.slope_high c.level.ensures.all
      (c.cos_bounds.ensures.encloses m e at);
  sin = on_level c.level-2.result c.sin_bounds.result n d _ _ (some_squares_at c.args.f m e at)
      c.level-2.ensures.start c.level-2.ensures.slope_low c.level-2.ensures.slope_high c.level-2.ensures.all
      (c.sin_bounds.ensures.encloses m e at);
}
