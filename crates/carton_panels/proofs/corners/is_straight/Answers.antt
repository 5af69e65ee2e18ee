use Rattle.std.proofs.Common.{rules, ◌∙◌, get_or, SFits, ap, sym, pos}
use Rattle.std.specs.Int.{w128}
use Rattle.std.specs.Ordering.{int_eq}
use Rattle.carton_panels.specs.Panels.{Side, sides_of, origin, leftness, is_straight}
use Rattle.carton_base.proofs.Tests.{same_zero_test}
use Rattle.carton_panels.proofs.Steps.{step_at, bend_at}
use Rattle.carton_panels.proofs.corners.is_straight.Goals as goal

pub returns : goal.returns
returns c = λ d.
    let ps = c.args.face.places.now in
    let k = c.args.k in
    let e : Side = record { from = origin; to = origin } in
    let s : Side = get_or (sides_of ps) c.previous_in_round.result e in
    let f : SFits w128 c.leftness.result = search rules in
    let next = get_or ps c.next_in_round.result origin in
    let last = step_at ps c.args.k c.next_in_round.result e origin c.requires c.next_in_round.ensures.inner
    c.next_in_round.ensures.last in
    let bend = bend_at ps c.args.k c.previous_in_round.result d e c.requires c.previous_in_round.ensures.later
    c.previous_in_round.ensures.first in
    same_zero_test c.leftness.result f
    ∙ ap (λ n. int_eq n (pos 0)) (c.leftness.ensures e)
    ∙ ap (λ (t : Side). int_eq (leftness s t.to.x t.to.y (pos 1)) (pos 0)) (sym last)
    ∙ ap is_straight (sym bend)
