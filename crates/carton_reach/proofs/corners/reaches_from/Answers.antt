use Rattle.std.proofs.Common.{arith, sym, subst, get_or, ◌-◌, ◌*◌, ◌^◌}
use Rattle.carton_reach.specs.Axes.{axis_at}
use Rattle.carton_reach.specs.Reaches.{IsReach, swing_units}
use Rattle.carton_reach.specs.Starts.{IsTurnedFrom}
use Rattle.carton_reach.proofs.Reached.{HoldsCorner, own_moment, reach_of_one, reach_of_more}
use Rattle.carton_reach.proofs.corners.reaches_from.Goals as goal

pub loop-k-init : goal.loop-k-init
loop-k-init g c = λ spots index depth t a d l.
    let s = c.index-starts-0.result in
    let held : HoldsCorner g.E.Enclose.holds c.corner_at.result spots 0 index depth = λ n e m i.
    c.corner_at.ensures.holds (n * 2 ^ depth - index * e) e (spots 0 n e) (own_moment index depth n e m i)
    (subst (λ x. IsTurnedFrom c.args.turns.now c.args.swings.now x (n * 2 ^ depth - index * e) e
    (spots 0 n e)) (sym c.index-starts-0.is) (t.turned 0 s (omega (arith, c.requires.some)) n e m i)) in
    reach_of_one g.E.Enclose.holds g.E.Enclose.spread c.corner_at.result spots 0 index depth (axis_at a)
    (get_or c.of_corner-all.result.axes a d) held
    (λ e. c.corner_at.ensures.close (swing_units depth) (omega arith) (t.close e))
    (c.of_corner-all.ensures a d l)

pub loop-k-preserved : goal.loop-k-preserved
loop-k-preserved g c = λ spots index depth t a d l.
    let k = c.loop-k.k in
    let s = c.index-starts-k.result in
    let held : HoldsCorner g.E.Enclose.holds c.corner_at-in-loop-k.result spots k index depth = λ n e m i.
    c.corner_at-in-loop-k.ensures.holds (n * 2 ^ depth - index * e) e (spots k n e)
    (own_moment index depth n e m i)
    (subst (λ x. IsTurnedFrom c.args.turns.now c.args.swings.now x (n * 2 ^ depth - index * e) e
    (spots k n e)) (sym c.index-starts-k.is)
    (t.turned k s (omega (arith, c.loop-k-test.true)) n e m i)) in
    reach_of_more g.E.Enclose.holds g.E.Enclose.spread c.corner_at-in-loop-k.result spots k index depth
    (axis_at a) (get_or c.loop-k.all.axes a d) (get_or c.widen.new.self.axes a d) t.positive held
    (λ e. c.corner_at-in-loop-k.ensures.close (swing_units depth) (omega arith) (t.close e))
    (c.loop-k.invariant spots index depth t a d l)
    (c.widen.ensures a d l)

pub returns : goal.returns
returns g c = λ spots index depth t a d l.
    let last = c.loop-k.auto.k-end (omega (arith, c.requires.some)) in
    subst (λ n. IsReach spots 0 n index depth (axis_at a) (get_or c.loop-k.all.axes a d))
    (omega (arith, last, c.loop-k-test.false)) (c.loop-k.invariant spots index depth t a d l)
