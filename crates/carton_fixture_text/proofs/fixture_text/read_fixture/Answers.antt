use Rattle.carton_fixture_text.proofs.OneSpelling.{one_spelling}
use Rattle.carton_fixture_text.proofs.FixturesRead.{keeps_rules}
use Rattle.carton_fixture_text.proofs.fixture_text.read_fixture.Goals as goal

pub returns-in_err-read_strictly-clause-one_spelling : goal.returns-in_err-read_strictly-clause-one_spelling
returns-in_err-read_strictly-clause-one_spelling c = one_spelling c.args.bytes.now

pub returns-clause-keeps_rules : goal.returns-clause-keeps_rules
returns-clause-keeps_rules c =
    keeps_rules c.args.bytes.now c.in_ok-read_strictly.field-0 c.told.result
    c.in_ok-read_strictly.ensures.reads c.told.ensures

pub returns-clause-one_spelling : goal.returns-clause-one_spelling
returns-clause-one_spelling c = one_spelling c.args.bytes.now
