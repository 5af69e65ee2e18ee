use Rattle.std.proofs.Common.{◌≤◌, List, length, get_or, take, arith, subst}
use Rattle.std.proofs.lemmas.List.{length-take}
use Rattle.carton_base.specs.declared.motion.Turn.{Turn}
use Rattle.carton_base.specs.declared.numbers.Triple.{Triple}
use Rattle.carton_reach.specs.Axes.{axis_at}
use Rattle.carton_reach.specs.Reaches.{IsReach}
use Rattle.carton_reach.specs.Spots.{shape_at, spots_after}
use Rattle.carton_reach.proofs.Positions.{after_positive}
use Rattle.carton_reach.proofs.Sizes.{narrow}
use Rattle.carton_reach.proofs.Starts.{starts_long, turned}
use Rattle.carton_reach.proofs.reaching.reaches_by.Goals as goal

pub returns : goal.returns
returns g c = λ a d l.
    let turns : List Turn = take c.args.route.now.count c.args.route.now.turns in
    let corners : List Triple = (shape_at c.args.carton.now c.args.panel.0).shrunk in
    let motion = c.args.motion.now in
    let swings = c.swings_over-swings.result in
    let index = c.args.piece.index in
    let depth = c.args.piece.depth in
    let enough : length turns ≤ length swings =
    omega (
      arith,
      c.swings_over-swings.ensures.length,
      c.requires.count,
      length-take
          c.args.route.now.count c.args.route.now.turns,
    ) in
    let spots = spots_after motion turns corners in
    subst (λ n. IsReach spots 0 n index depth (axis_at a) (get_or c.reaches_from.result.axes a d))
    (starts_long corners c.starts_of.result.now c.starts_of.ensures.starts)
    (c.reaches_from.ensures spots index depth record {
      positive = after_positive motion turns corners;
      turned = turned motion turns swings corners c.starts_of.result.now index depth
          c.starts_of.ensures.starts enough
          (λ k s t l. (c.swings_over-swings.ensures.swings k s t l).follows);
      close = λ e. narrow motion turns swings index depth c.requires.motion c.requires.turns enough
          c.swings_over-swings.ensures.swings c.args.piece.shallow;
    } a d l)
