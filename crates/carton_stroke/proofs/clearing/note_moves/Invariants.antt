use Rattle.carton_stroke.specs.Steps.{AreNotesBefore}
use Rattle.carton_stroke.proofs.clearing.note_moves.Given as goal

abbrev pub invariant-loop-i : goal.invariant-loop-i
invariant-loop-i l = AreNotesBefore l.carton l.states l.stroke l.slack l.i l.bodies l.notes
