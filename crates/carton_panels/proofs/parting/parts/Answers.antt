use Rattle.std.specs.Prelude.{All}
use Rattle.carton_base.specs.declared.numbers.Triple.{Triple}
use Rattle.carton_panels.proofs.Parted.{IsFlatFarther}
use Rattle.carton_base.proofs.Loops.{yes, no, at_yes, at_no, all_more, all_end, at_item}
use Rattle.carton_panels.proofs.parting.parts.Goals as goal

pub returns-then-not-are_farther : goal.returns-then-not-are_farther
returns-then-not-are_farther c =
    no (λ h. at_no c.if-not-are_farther.true c.are_farther.ensures
    (at_item (λ (p : Triple). All (IsFlatFarther c.args.h.u c.args.h.v p) c.args.second.now) c.args.first.now
    c.loop-p.p-index c.p-item.result c.loop-p-test.true c.p-item.is h))

pub loop-p-preserved : goal.loop-p-preserved
loop-p-preserved c = all_more (λ (p : Triple). All (IsFlatFarther c.args.h.u c.args.h.v p) c.args.second.now)
    c.args.first.now c.loop-p.p-index c.p-item.result c.loop-p-test.true c.p-item.is
    (at_yes c.if-not-are_farther.false c.are_farther.ensures) c.loop-p.invariant

pub returns : goal.returns
returns c =
    yes (all_end (λ (p : Triple). All (IsFlatFarther c.args.h.u c.args.h.v p) c.args.second.now)
    c.args.first.now c.loop-p.p-index c.loop-p-test.false c.loop-p.invariant)
