use Rattle.std.proofs.Common.{◌++◌, ◌∙◌, ap, arith, string_bytes}
use Rattle.carton_fixture_commands.proofs.NoteLines.{next_note, all_notes}
use Rattle.carton_fixture_commands.proofs.notes.write_notes.Goals as goal

pub loop-id-preserved : goal.loop-id-preserved
loop-id-preserved c =
    let so_far = string_bytes c.loop-id.text in
    let grew = c.in_ok-push_str.ensures.bytes
    ∙ ap (λ b. so_far ++ b) (c.deref.ensures ∙ c.in_ok-line.ensures) in
    next_note c.args.notes.now c.loop-id.id c.index-notes-id.result so_far (string_bytes c.push_str.new.self)
    _ (omega (arith, c.loop-id-test.true)) c.index-notes-id.is grew c.loop-id.invariant

pub returns : goal.returns
returns c = all_notes c.args.notes.now c.loop-id.id (string_bytes c.loop-id.text) _
    (omega (arith, c.loop-id-test.false)) c.loop-id.invariant
