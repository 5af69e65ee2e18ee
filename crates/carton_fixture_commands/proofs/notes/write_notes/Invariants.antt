use Rattle.std.proofs.Common.{◌≡◌, ◌++◌, drop, string_bytes}
use Rattle.carton_fixture_commands.specs.Notes.{note_lines}
use Rattle.carton_fixture_commands.proofs.notes.write_notes.Given as goal

abbrev pub invariant-loop-id : goal.invariant-loop-id
invariant-loop-id l = string_bytes l.text ++ note_lines l.id (drop l.id l.notes) ≡ string_bytes l.initial.text
    ++ note_lines 0 l.notes
