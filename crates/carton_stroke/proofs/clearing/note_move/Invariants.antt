use Rattle.std.proofs.Common.{◌+◌, List, get_or}
use Rattle.carton_base.specs.declared.bodies.Cuboid.{Cuboid}
use Rattle.carton_base.specs.declared.motion.State.{State}
use Rattle.carton_text.specs.PlanMoves.{IsMove}
use Rattle.carton_stroke.specs.Steps.{IsNoteBefore}
use Rattle.carton_stroke.proofs.Passed.{HaveChanged}
use Rattle.carton_stroke.proofs.clearing.note_move.Given as goal

abbrev pub invariant-loop-k : goal.invariant-loop-k
invariant-loop-k l =
    HaveChanged (λ k before after. (b : Cuboid) (states : List State)
    → IsMove states l.step l.motion.from l.motion.to
    → IsNoteBefore l.carton states l.stroke l.slack l.step (get_or l.bodies k b) before
    → IsNoteBefore l.carton states l.stroke l.slack (l.step + 1) (get_or l.bodies k b) after) l.initial.notes
    l.notes l.k
