use Rattle.std.proofs.Common.{◌≡◌, ◌-◌, ℕ}
use Rattle.carton_search.specs.Turns.{Going}
use Rattle.carton_search.proofs.exploring.explore.Given as goal

abbrev pub invariant-turn : goal.invariant-turn
invariant-turn g l = record {
  going : (last : ℕ) × Going l.fn.task (g.J.Judge.carton l.fn.judge) l.known l.turns last;
  carton : g.J.Judge.carton l.judge ≡ g.J.Judge.carton l.fn.judge;
  slack : g.J.Judge.slack l.judge ≡ g.J.Judge.slack l.fn.judge;
}

abbrev pub decreases-turn : goal.decreases-turn
decreases-turn g l = l.fn.task.turns - l.turns
