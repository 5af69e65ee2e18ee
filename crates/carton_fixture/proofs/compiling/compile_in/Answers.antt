use Rattle.carton_fixture.proofs.Ready.{ready_of}
use Rattle.carton_fixture.proofs.SlackGood.{made_where_good}
use Rattle.carton_fixture.proofs.compiling.compile_in.Goals as goal

pub compiled-requires-clause-ready : goal.compiled-requires-clause-ready
compiled-requires-clause-ready c =
    ready_of c.args.carton.now c.args.task.now c.args.plan.now c.args.catalogue.now c.requires.task
    c.requires.plan c.requires.catalogue c.requires.creases c.requires.fits c.in-Holds.ensures.checked.0

pub returns-in-Holds-clause-slack_good : goal.returns-in-Holds-clause-slack_good
returns-in-Holds-clause-slack_good c = made_where_good c.args.carton.now c.args.task.now c.args.plan.now
    c.args.catalogue.now c.compiled.result c.compiled.ensures.compiled c.compiled.ensures.no_memory
