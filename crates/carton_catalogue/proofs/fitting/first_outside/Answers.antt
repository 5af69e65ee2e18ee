use Rattle.carton_base.proofs.Loops.{at_yes, at_no}
use Rattle.carton_catalogue.specs.Fits.{IsOnShape}
use Rattle.carton_catalogue.proofs.Misfits.{all_from_places, one_more, first_out}
use Rattle.carton_catalogue.proofs.fitting.first_outside.Goals as goal

pub returns-then-not-is_on : goal.returns-then-not-is_on
returns-then-not-is_on c = first_out (IsOnShape c.args.shape.now) c.args.probes.now c.loop-k.k _
    c.loop-k-test.true (at_no c.if-not-is_on.true c.is_on.ensures) c.loop-k.invariant

pub loop-k-preserved : goal.loop-k-preserved
loop-k-preserved c = one_more (IsOnShape c.args.shape.now) c.args.probes.now c.loop-k.k _ c.loop-k-test.true
    (at_yes c.if-not-is_on.false c.is_on.ensures) c.loop-k.invariant

pub returns : goal.returns
returns c = all_from_places (IsOnShape c.args.shape.now) c.args.probes.now c.loop-k.k c.loop-k-test.false
    c.loop-k.invariant
