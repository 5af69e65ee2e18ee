use Rattle.std.proofs.Common.{◌∙◌, ap, sym, subst, List, Bool}
use Rattle.carton_stroke.specs.declared.note.BodyNote.{BodyNote}
use Rattle.carton_stroke.specs.Notes.{AreNotesOf}
use Rattle.carton_fixture.specs.Answers.{clear_ones}
use Rattle.carton_fixture.specs.Fixtures.{IsUnheld}
use Rattle.carton_fixture.specs.Steps.{AreChosenClear}
use Rattle.carton_fixture.proofs.Noted.{noted_are_clear}
use Rattle.carton_fixture.proofs.compiling.compiled.Goals as goal

pub made-requires-clause-clear : goal.made-requires-clause-clear
made-requires-clause-clear c =
    subst (λ (xs : List Bool). AreChosenClear c.args.carton.now c.args.plan.now c.args.catalogue.now xs)
    (sym (c.choose_clear.ensures ∙ ap clear_ones c.deref.ensures.value))
    (noted_are_clear c.args.carton.now c.args.plan.now c.args.catalogue.now c.args.task.now.slack
    c.noted-notes.result.items c.noted-notes.ensures)

pub returns-in-Some-clause-compiled : goal.returns-in-Some-clause-compiled
returns-in-Some-clause-compiled c =
    let stroke = c.args.catalogue.now.stroke in
    let bodies = c.args.catalogue.now.bodies in
    record {
      holds = c.requires.holds;
      notes_are =
          subst (λ (ns : List BodyNote). AreNotesOf c.args.carton.now c.args.plan.now stroke bodies
          c.args.task.now.slack ns) (sym c.from_vec.ensures) c.noted-notes.ensures;
      unheld =
          subst (λ (xs : List Bool). IsUnheld c.args.carton.now c.args.plan.now c.args.catalogue.now.guides
          stroke bodies xs c.args.task.now.slack c.in-Some.unheld) (c.choose_clear.ensures
          ∙ ap clear_ones (c.deref.ensures.value ∙ sym c.from_vec.ensures)) c.in-Some.ensures;
    }
