-- The plan clears the candidates that are noted to be clear.
use Rattle.std.proofs.Common.{◌≡◌, ℕ, ℤ, true, List, get_or, slice_get, option_map, Some, sym, ap, subst, ◌∙◌}
use Rattle.std.proofs.Common.{arith}
use Rattle.std.proofs.lemmas.Option.{slice_get_within, slice_get-get_or, get_or_from_slice_get, slice_get-map}
use Rattle.carton_base.specs.declared.bodies.Cuboid.{Cuboid}
use Rattle.carton_bodies.specs.Boxes.{faces}
use Rattle.carton_catalogue.specs.declared.catalogue.Catalogue.{Catalogue}
use Rattle.carton_stroke.specs.declared.note.BodyNote.{BodyNote}
use Rattle.carton_stroke.specs.declared.note.BodyNote.TheVariants.{Clears, Touches}
use Rattle.carton_stroke.specs.Clear.{IsClearOf}
use Rattle.carton_stroke.specs.Notes.{IsNoteOf, AreNotesOf}
use Rattle.carton_text.specs.declared.plan.Plan.{Plan}
use Rattle.carton_tree.specs.Trees.{Tree}
use Rattle.carton_fixture.specs.Answers.{clears, clear_ones}
use Rattle.carton_fixture.specs.Steps.{AreChosenClear}

clear_by_note : (t : Tree) (plan : Plan) (stroke : List ℤ) (box : Cuboid) (slack : ℕ) (note : BodyNote)
    → clears note ≡ true → IsNoteOf t plan stroke box slack note → IsClearOf t plan stroke (faces box)
clear_by_note t plan stroke box slack Clears e h = h
clear_by_note t plan stroke box slack (Touches panel step m) e h = cc

pub noted_are_clear : (t : Tree) (plan : Plan) (c : Catalogue) (slack : ℕ) (notes : List BodyNote)
    → AreNotesOf t plan c.stroke c.bodies slack notes → AreChosenClear t plan c (clear_ones notes)
noted_are_clear t plan c slack notes are = λ k b is.
    let lt = slice_get_within c.bodies k b is.at in
    let count = are.count in
    let there : slice_get notes k ≡ Some (get_or notes k Clears) =
    slice_get-get_or notes k Clears (omega (arith, lt, count)) in
    let yes : Some (clears (get_or notes k Clears)) ≡ Some true =
    sym (slice_get-map clears notes k ∙ ap (option_map clears) there) ∙ is.marked in
    let told = subst (λ x. IsNoteOf t plan c.stroke x slack (get_or notes k Clears))
    (get_or_from_slice_get c.bodies k b b is.at) (are.each k b Clears lt) in
    clear_by_note t plan c.stroke b slack (get_or notes k Clears) (let e = yes in cc) told
