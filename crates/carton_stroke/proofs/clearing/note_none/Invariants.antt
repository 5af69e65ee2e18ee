use Rattle.std.proofs.Common.{◌≡◌, length}
use Rattle.carton_place.proofs.Lists.{FirstHave}
use Rattle.carton_stroke.specs.declared.note.BodyNote.TheVariants.{Clears}
use Rattle.carton_stroke.proofs.clearing.note_none.Given as goal

abbrev pub invariant-loop-k : goal.invariant-loop-k
invariant-loop-k l = (length l.notes ≡ length l.initial.notes) × FirstHave (λ k m. m ≡ Clears) l.notes l.k
