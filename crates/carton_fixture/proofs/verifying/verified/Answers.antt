use Rattle.carton_fixture.proofs.Few.{few_bodies}
use Rattle.carton_fixture.proofs.verifying.verified.Goals as goal

pub first_stranger-requires : goal.first_stranger-requires
first_stranger-requires c = rw c.as_slice-bodies.ensures (few_bodies c.args.fixture.now c.requires.rules)
