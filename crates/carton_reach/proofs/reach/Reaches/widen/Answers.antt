use Rattle.std.proofs.Common.{arith, ◌<◌, length, get_or, ◌∙◌, subst}
use Rattle.std.proofs.lemmas.List.{get_or_default, length-set}
use Rattle.carton_place.proofs.Lists.{one_more_set}
use Rattle.carton_reach.specs.declared.reach.Reach.{Reach}
use Rattle.carton_reach.specs.Axes.{axis_at}
use Rattle.carton_reach.specs.Corners.{IsJoined, IsWidened}
use Rattle.carton_reach.proofs.Lists.{rest_stays}
use Rattle.carton_reach.proofs.reach.Reaches.widen.Goals as goal

pub loop-a-preserved : goal.loop-a-preserved
loop-a-preserved g c =
    let i = c.loop-a.a in
    let xs = c.loop-a.self.axes in
    let ys = c.args.self.now.axes in
    let r = c.joined.result in
    let m = get_or c.reaches_at-more.result i c.index-more-a.result in
    let l : i < length xs = omega (arith, c.loop-a.invariant.0, c.loop-a-test.true) in
    let j : IsJoined (get_or xs i c.index-self-a.result) m r =
    record {
      least_low = c.joined.ensures.least_low;
      least_high = c.joined.ensures.least_high;
      greatest_low = c.joined.ensures.greatest_low;
      greatest_high = c.joined.ensures.greatest_high;
    } in
    let here : (e : Reach)
    → IsWidened g.E.Enclose.holds g.E.Enclose.spread c.args.at (axis_at i) (get_or ys i e) r =
    λ e. record {
      corner = m;
      reach = c.reaches_at-more.ensures.reaches i c.index-more-a.result c.loop-a-test.true;
      joined =
          subst (λ p. IsJoined p m r) (get_or_default xs i c.index-self-a.result e l
          ∙ c.loop-a.invariant.2 i e (omega arith)) j;
    } in (
      length-set xs i r ∙ c.loop-a.invariant.0,
      one_more_set (λ a x. (e : Reach)
          → IsWidened g.E.Enclose.holds g.E.Enclose.spread c.args.at (axis_at a) (get_or ys a e) x) xs i r l
          here c.loop-a.invariant.1,
      rest_stays xs ys i r c.loop-a.invariant.2,
      c.loop-a.invariant.3,
    )

pub returns : goal.returns
returns g c = λ a d l. c.loop-a.invariant.1 a d (omega (arith, l, c.loop-a-test.false)) d
