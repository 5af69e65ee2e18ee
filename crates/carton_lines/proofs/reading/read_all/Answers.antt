use Rattle.std.proofs.lemmas.Result.{err_from_is_err_and}
use Rattle.bstr.specs.Text.{lines_of}
use Rattle.carton_lines.specs.declared.reading.Reading.TheVariants.{Before}
use Rattle.carton_lines.specs.Readings.{step, read_lines}
use Rattle.carton_lines.proofs.Lines.{goes_on, ends, is_done}
use Rattle.carton_lines.proofs.reading.read_all.Goals as goal

pub returns-in_err-reading : goal.returns-in_err-reading
returns-in_err-reading g c =
    let each = step g.D.LineText.grammar c.args.way in
    let total = read_lines each Before 0 (lines_of c.args.bytes.now) in
    let p = err_from_is_err_and c.from_residual.result c.from_residual.ensures.1 in
    rw (p.1, p.2) (λ n. let h = rw c.saturating_add-number.ensures at (c.in_err-reading.ensures n) in
    ends each c.loop-piece.reading c.in_err-reading.field-0.0 c.loop-piece.number _ _ _ total
    c.in-Some.ensures.steps h c.loop-piece.invariant)

pub loop-piece-preserved : goal.loop-piece-preserved
loop-piece-preserved g c =
    let each = step g.D.LineText.grammar c.args.way in
    let total = read_lines each Before 0 (lines_of c.args.bytes.now) in
    let h = rw c.saturating_add-number.ensures at c.in_ok-reading.ensures in
    rw c.saturating_add-number.ensures (goes_on each c.loop-piece.reading _ c.loop-piece.number _ _ _ total
    c.in-Some.ensures.steps h c.loop-piece.invariant)

pub returns : goal.returns
returns g c =
    let each = step g.D.LineText.grammar c.args.way in
    let total = read_lines each Before 0 (lines_of c.args.bytes.now) in
    is_done each c.loop-piece.reading c.loop-piece.number _ total c.in-None.ensures.steps.0
    c.loop-piece.invariant
