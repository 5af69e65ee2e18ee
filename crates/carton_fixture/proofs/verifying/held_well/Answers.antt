use Rattle.std.proofs.Common.{subst, arith}
use Rattle.carton_fixture.specs.Steps.{AreNamed}
use Rattle.carton_fixture.proofs.Few.{few_bodies}
use Rattle.carton_fixture.proofs.Good.{good_of_bodies, unheld_of_bodies}
use Rattle.carton_fixture.proofs.verifying.held_well.Goals as goal

pub overflow_cast-result : goal.overflow_cast-result
overflow_cast-result c = let few = few_bodies c.args.fixture.now c.requires.rules in
    omega (arith, few, c.len-in-None.ensures)

pub returns-in-Some : goal.returns-in-Some
returns-in-Some c =
    let named = subst (λ bs. AreNamed c.choose_named.new.chosen bs) c.as_slice.ensures
    c.choose_named.ensures in (
      c.requires.clear,
      unheld_of_bodies c.args.carton.now c.args.task.now.slack c.args.plan.now
          c.args.catalogue.now c.args.fixture.now c.choose_named.new.chosen c.in-Some.unheld c.requires.rules
          c.requires.clear.0.1 named c.in-Some.ensures,
    )

pub returns-in-None : goal.returns-in-None
returns-in-None c =
    let named = subst (λ bs. AreNamed c.choose_named.new.chosen bs) c.as_slice.ensures
    c.choose_named.ensures in (
      good_of_bodies c.args.carton.now c.args.task.now c.args.plan.now c.args.catalogue.now c.args.fixture.now
          c.choose_named.new.chosen c.requires.rules c.requires.clear named c.in-None.ensures,
      c.len-in-None.ensures,
    )
