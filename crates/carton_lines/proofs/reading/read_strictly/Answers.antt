use Rattle.carton_lines.proofs.Spellings.{one_spelling}
use Rattle.carton_lines.proofs.reading.read_strictly.Goals as goal

pub returns-in_err-read_all-clause-one_spelling : goal.returns-in_err-read_all-clause-one_spelling
returns-in_err-read_all-clause-one_spelling g c = one_spelling g.D.LineText.grammar c.args.bytes.now

pub returns-clause-one_spelling : goal.returns-clause-one_spelling
returns-clause-one_spelling g c = one_spelling g.D.LineText.grammar c.args.bytes.now
