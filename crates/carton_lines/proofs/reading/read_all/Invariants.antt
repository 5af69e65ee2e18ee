use Rattle.std.proofs.Common.{◌≡◌}
use Rattle.bstr.specs.Text.{lines_of}
use Rattle.carton_lines.specs.declared.reading.Reading.TheVariants.{Before}
use Rattle.carton_lines.specs.Readings.{step, read_lines}
use Rattle.carton_lines.proofs.reading.read_all.Given as goal

abbrev pub invariant-loop-piece : goal.invariant-loop-piece
invariant-loop-piece g l =
    let each = step g.D.LineText.grammar l.fn.way in
    read_lines each l.reading l.number l.piece-iterator ≡ read_lines each Before 0 (lines_of l.fn.bytes)
