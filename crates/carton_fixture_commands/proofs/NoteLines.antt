-- The lines of candidates, written one after the other.
use Rattle.std.proofs.Common.{◌≡◌, ℕ, suc, ◌+◌, ◌<◌, ◌≤◌, List, ◌∷◌, ◌++◌, drop, drop-cons, length, get_or}
use Rattle.std.proofs.Common.{arith, sym, ◌∙◌, ap, append_assoc}
use Rattle.std.proofs.lemmas.List.{append-nil, drop_all}
use Rattle.carton_stroke.specs.declared.note.BodyNote.{BodyNote}
use Rattle.carton_fixture_commands.specs.Notes.{note_line, note_lines}

-- the line of the next candidate is written
pub next_note : (notes : List BodyNote) (id : ℕ) (note : BodyNote) (text more whole : List ℕ)
    → id < length notes → note ≡ get_or notes id note → more ≡ text ++ note_line id note
    → text ++ note_lines id (drop id notes) ≡ whole → more ++ note_lines (id + 1) (drop (id + 1) notes)
    ≡ whole
next_note notes id note text more whole lt is grew so_far =
    let one : suc id ≡ id + 1 = omega arith in
    let split : drop id notes ≡ note ∷ drop (id + 1) notes = drop-cons notes id note lt
    ∙ (λ i. sym is i ∷ drop (one i) notes) in
    let rest : note_lines id (drop id notes)
    ≡ note_line id note ++ note_lines (id + 1) (drop (id + 1) notes) = ap (note_lines id) split
    ∙ ap (λ k. note_line id note ++ note_lines k (drop (id + 1) notes)) one in
    ap (λ b. b ++ note_lines (id + 1) (drop (id + 1) notes)) grew
    ∙ append_assoc text (note_line id note) (note_lines (id + 1) (drop (id + 1) notes))
    ∙ ap (λ b. text ++ b) (sym rest) ∙ so_far

-- all are
pub all_notes : (notes : List BodyNote) (id : ℕ) (text whole : List ℕ) → length notes ≤ id
    → text ++ note_lines id (drop id notes) ≡ whole → text ≡ whole
all_notes notes id text whole le h = sym (append-nil text)
    ∙ ap (λ rest. text ++ note_lines id rest) (sym (drop_all id notes le)) ∙ h
