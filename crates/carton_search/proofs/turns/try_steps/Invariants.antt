use Rattle.std.proofs.Common.{◌≡◌}
use Rattle.carton_search.specs.Turns.{AreTried}
use Rattle.carton_search.proofs.turns.try_steps.Given as goal

abbrev pub invariant-loop-step : goal.invariant-loop-step
invariant-loop-step g l = record {
  trying : AreTried l.fn.task (g.J.Judge.carton l.fn.judge) l.known l.fn.turn l.step;
  carton : g.J.Judge.carton l.judge ≡ g.J.Judge.carton l.fn.judge;
  slack : g.J.Judge.slack l.judge ≡ g.J.Judge.slack l.fn.judge;
}
