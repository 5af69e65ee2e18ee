use Rattle.std.proofs.Common.{◌<◌, length, get_or, subst, arith, below_more}
use Rattle.carton_tree.specs.declared.besides.Beside.{Beside}
use Rattle.carton_tree.specs.declared.besides.Beside.TheVariants.{Nobody}
use Rattle.carton_tree.specs.Joints.{IsSide}
use Rattle.carton_tree.specs.Rules.{IsThreefold}
use Rattle.carton_tree.specs.Steps.{IsBeside}
use Rattle.carton_tree.proofs.Gathering.{threefold, not_threefold}
use Rattle.carton_tree.proofs.rules.first_threefold.Goals as goal

pub returns-in-More : goal.returns-in-More
returns-in-More c =
    let d = c.args.raw.now in
    let k = c.loop-k.k in
    let more = subst (IsBeside (IsSide d k) (length d.faces)) c.in-More.is
    (c.requires.besides.each k Nobody c.loop-k-test.true) in
    (threefold d k more, c.loop-k.invariant)

pub loop-k-preserved : goal.loop-k-preserved
loop-k-preserved c =
    let d = c.args.raw.now in
    let k = c.loop-k.k in
    let b : Beside = get_or c.args.besides.now k Nobody in
    below_more (λ j. ¬ (IsThreefold d j)) k c.loop-k.invariant
    (not_threefold d k b c.in_default.not-More (c.requires.besides.each k Nobody c.loop-k-test.true))

pub returns : goal.returns
returns c = λ k t.
    let in' : k < length c.args.raw.now.edges = t.5.side.3.within in
    c.loop-k.invariant k (omega (arith, in', c.requires.whole, c.loop-k-test.false)) t
