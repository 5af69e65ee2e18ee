use Rattle.std.proofs.Common.{arith}
use Rattle.carton_base.proofs.Loops.{yes, no, at_yes, at_no}
use Rattle.carton_stroke.specs.Nearness.{IsApart}
use Rattle.carton_stroke.proofs.Passed.{one_more_beside}
use Rattle.carton_stroke.proofs.nearness.are_apart.Goals as goal

pub returns-then-is_apart : goal.returns-then-is_apart
returns-then-is_apart c =
    yes (
      c.loop-a.a,
      c.index-panel-a.result,
      _,
      c.loop-a-test.true,
      at_yes c.if-is_apart.true
          c.is_apart.ensures,
    )

pub loop-a-preserved : goal.loop-a-preserved
loop-a-preserved c =
    let h = c.loop-a.invariant in (
      h.0,
      h.1,
      one_more_beside (λ x y. ¬ (IsApart x y)) c.args.panel.now.axes c.args.body.now.axes c.loop-a.a
          c.index-panel-a.result _ (omega (arith, h.0, c.loop-a-test.true))
          (omega (arith, h.1, c.loop-a-test.true)) (at_no c.if-is_apart.false c.is_apart.ensures) h.2,
    )

pub returns : goal.returns
returns c = no (λ s. c.loop-a.invariant.2 s.0 s.1 s.2 (omega (arith, s.3, c.loop-a-test.false)) s.4)
