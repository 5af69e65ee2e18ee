use Rattle.std.proofs.Common.{◌≡◌, length, get_or}
use Rattle.carton_base.specs.declared.bodies.Cuboid.{Cuboid}
use Rattle.carton_place.proofs.Lists.{FirstHave}
use Rattle.carton_stroke.specs.Steps.{IsNoteAlone}
use Rattle.carton_stroke.proofs.resting.note_state.Given as goal

abbrev pub invariant-loop-k : goal.invariant-loop-k
invariant-loop-k l = (length l.notes ≡ length l.bodies)
    × FirstHave (λ k m. (b : Cuboid) → IsNoteAlone l.carton l.state l.stroke l.slack (get_or l.bodies k b) m)
    l.notes l.k
