use Rattle.carton_base.specs.declared.numbers.Triple.{Triple}
use Rattle.carton_panels.specs.Shrinking.{IsSamePoint}
use Rattle.carton_base.proofs.Loops.{yes, no, at_yes, at_no, none_more, any_at, none_any}
use Rattle.carton_panels.proofs.crossings.is_found.Goals as goal

pub returns-then-is_same_point : goal.returns-then-is_same_point
returns-then-is_same_point c =
    yes (any_at (λ (k : Triple). IsSamePoint k c.args.t) c.args.found.now c.loop-k.k-index c.k-item.result
    c.loop-k-test.true c.k-item.is (at_yes c.if-is_same_point.true c.is_same_point.ensures))

pub loop-k-preserved : goal.loop-k-preserved
loop-k-preserved c = none_more (λ (k : Triple). IsSamePoint k c.args.t) c.args.found.now c.loop-k.k-index
    c.k-item.result c.loop-k-test.true c.k-item.is (at_no c.if-is_same_point.false c.is_same_point.ensures)
    c.loop-k.invariant

pub returns : goal.returns
returns c =
    no (none_any (λ (k : Triple). IsSamePoint k c.args.t) c.args.found.now c.loop-k.k-index
    c.loop-k-test.false c.loop-k.invariant)
