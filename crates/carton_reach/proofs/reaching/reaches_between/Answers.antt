use Rattle.std.proofs.Common.{◌≤◌, List, length, get_or, take, arith, subst}
use Rattle.std.proofs.lemmas.List.{length-take}
use Rattle.carton_base.specs.declared.motion.Turn.{Turn}
use Rattle.carton_base.specs.declared.numbers.Triple.{Triple}
use Rattle.carton_reach.specs.Axes.{axis_at}
use Rattle.carton_reach.specs.Reaches.{IsReach}
use Rattle.carton_reach.specs.Spots.{shape_at, spots_after}
use Rattle.carton_reach.proofs.Positions.{after_positive}
use Rattle.carton_reach.proofs.Starts.{starts_long, turned}
use Rattle.carton_reach.proofs.reaching.reaches_between.Goals as goal

pub returns : goal.returns
returns g c = λ motion between a d l.
    let turns : List Turn = take c.args.route.now.count c.args.route.now.turns in
    let corners : List Triple = (shape_at c.args.carton.now c.args.panel.0).shrunk in
    let swings = c.swings_between-swings.result in
    let enough : length turns ≤ length swings =
    omega (
      arith,
      c.swings_between-swings.ensures.length,
      c.requires.count,
      length-take
          c.args.route.now.count c.args.route.now.turns,
    ) in
    let spots = spots_after motion turns corners in
    subst (λ n. IsReach spots 0 n 0 0 (axis_at a) (get_or c.reaches_from.result.axes a d))
    (starts_long corners c.starts_of-starts.result.now c.starts_of-starts.ensures.starts)
    (c.reaches_from.ensures spots 0 0 record {
      positive = after_positive motion turns corners;
      turned = turned motion turns swings corners c.starts_of-starts.result.now 0 0
          c.starts_of-starts.ensures.starts enough (c.swings_between-swings.ensures.swings motion between);
      close = λ e. absurd (omega (arith, e));
    } a d l)
