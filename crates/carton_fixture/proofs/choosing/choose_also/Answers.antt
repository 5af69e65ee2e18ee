use Rattle.std.proofs.Common.{sym, subst, [], take, get_or, arith}
use Rattle.std.proofs.lemmas.List.{take_more}
use Rattle.carton_fixture.specs.Steps.{AreNamed}
use Rattle.carton_fixture.proofs.Loops.{no_body, named_none, named_more, none_chosen}
use Rattle.carton_fixture.proofs.choosing.choose_also.Goals as goal

pub loop-body-init : goal.loop-body-init
loop-body-init c = subst (λ xs. AreNamed xs []) (sym c.requires.none) (named_none _ (none_chosen _))

pub loop-body-preserved : goal.loop-body-preserved
loop-body-preserved c =
    let i = c.loop-body.body-index in
    let within = c.requires.within i no_body c.loop-body-test.true in
    rw (c.from.ensures, take_more c.args.bodies.now i no_body c.loop-body-test.true)
    (named_more c.loop-body.chosen (take i c.args.bodies.now) (get_or c.args.bodies.now i no_body)
    (omega (arith, within)) c.loop-body.invariant)
