use Rattle.carton_fixture.proofs.Ready.{ready_of}
use Rattle.carton_fixture.proofs.SlackGood.{holds_where_good}
use Rattle.carton_fixture.proofs.verifying.verify.Goals as goal

pub verified-requires-clause-ready : goal.verified-requires-clause-ready
verified-requires-clause-ready c =
    ready_of c.args.carton.now c.args.task.now c.args.plan.now c.args.catalogue.now c.requires.task
    c.requires.plan c.requires.catalogue c.requires.creases c.requires.fits c.in-Holds.ensures.checked.0

pub returns-in-Holds-clause-slack_good : goal.returns-in-Holds-clause-slack_good
returns-in-Holds-clause-slack_good c = holds_where_good c.args.carton.now c.args.task.now c.args.plan.now
    c.args.catalogue.now c.args.fixture.now c.verified.result c.verified.ensures
