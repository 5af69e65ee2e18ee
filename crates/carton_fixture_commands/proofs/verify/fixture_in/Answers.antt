use Rattle.carton_setup.proofs.Outcomes.{reads_of, kept_in}
use Rattle.carton_fixture_text.specs.FixtureRules.{IsFixture}
use Rattle.carton_fixture_text.specs.FixtureTexts.{fixture_of}
use Rattle.carton_lines.specs.declared.fault.LineError.TheVariants.{Memory}
use Rattle.carton_setup.specs.Rules.{line_rule}
use Rattle.carton_words.specs.declared.kinds.FileKind.TheVariants.{Fixture}
use Rattle.carton_fixture_commands.proofs.verify.fixture_in.Goals as goal

pub returns-clause-reads : goal.returns-clause-reads
returns-clause-reads c =
    reads_of Fixture line_rule Memory (λ f. f) fixture_of c.bytes_at.result.now _ c.bytes_at.ensures
    c.read_fixture.result
    c.read_fixture.ensures.reads c.accept.result c.accept.ensures

pub returns-clause-keeps_rules : goal.returns-clause-keeps_rules
returns-clause-keeps_rules c =
    kept_in Fixture line_rule IsFixture c.read_fixture.result c.read_fixture.ensures.keeps_rules
    c.accept.result c.accept.ensures
