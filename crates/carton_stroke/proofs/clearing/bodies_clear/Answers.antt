use Rattle.std.proofs.Common.{arith, ◌≤◌, ◌∙◌, sym, ap, subst, length}
use Rattle.carton_stroke.specs.Steps.{AreNotesBefore}
use Rattle.carton_stroke.proofs.Noted.{note_of_moves, note_of_one, one_state}
use Rattle.carton_stroke.proofs.clearing.bodies_clear.Goals as goal

pub returns-then-states-eq1 : goal.returns-then-states-eq1
returns-then-states-eq1 c =
    let s = c.index-states-0.result in
    let e = sym c.as_slice-states.ensures
    ∙ one_state c.as_slice-states.result.now s c.if-states-eq1.true c.index-states-0.is in
    record {
      count = c.note_state.ensures.count;
      each = λ k b m lt. note_of_one c.args.carton.now c.args.plan.now s c.args.stroke c.args.slack _ _ e
          (c.note_state.ensures.each k b m lt);
    }

pub returns-else-states-eq1 : goal.returns-else-states-eq1
returns-else-states-eq1 c =
    let t = c.args.carton.now in
    let plan = c.args.plan.now in
    let same = ap (λ xs. length xs) c.as_slice-states.ensures in
    let two : 2 ≤ length plan.states =
    omega (arith, c.if-states-eq1.false, c.requires.plan.rules.states.some, same) in
    let all = subst (λ xs. AreNotesBefore t xs c.args.stroke c.args.slack (length xs) c.args.bodies.now
    c.note_moves.new.notes) c.as_slice-states.ensures c.note_moves.ensures in
    record {
      count = all.count;
      each = λ k b m lt. note_of_moves t plan c.args.stroke c.args.slack _ _ two
          (all.each k b m lt);
    }
