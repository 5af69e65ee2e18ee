use Rattle.std.proofs.Common.{ℕ, ◌<◌, ◌≤◌}
use Rattle.carton_base.specs.declared.motion.State.{State}
use Rattle.carton_text.specs.PlanMoves.{IsMove}
use Rattle.carton_guide.specs.declared.note.End.{End}
use Rattle.carton_guide.specs.Notes.{IsHeldThrough}
use Rattle.carton_guide.proofs.holding.held.Given as goal

abbrev pub invariant-loop-step : goal.invariant-loop-step
invariant-loop-step l = (i : ℕ) → l.guide.first ≤ i → i < l.step → (s r : State) (end : End)
    → IsMove l.plan.states i s r
    → IsHeldThrough l.carton l.guide l.fn.stroke l.fn.bodies l.fn.chosen l.flap.panel.0 l.flap.place end i s r
