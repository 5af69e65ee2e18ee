use Rattle.std.proofs.Common.{◌<◌, length, arith, below_more}
use Rattle.carton_tree.specs.Rules.{IsApart}
use Rattle.carton_tree.proofs.Deciding.{apart, not_apart}
use Rattle.carton_tree.proofs.build.first_apart.Goals as goal

pub returns-then-groups-p : goal.returns-then-groups-p
returns-then-groups-p c =
    let hinges = c.args.hinges.now in
    let lt : c.loop-p.p < length c.args.raw.now.faces =
    omega (arith, c.len-p-end.ensures, c.loop-p-test.true) in (
      apart c.args.raw.now hinges.creases.items hinges.all.items c.args.groups.now c.loop-p.p c.args.root.0
          c.requires.hinges c.requires.groups c.requires.dieline.faces lt c.requires.root c.if-groups-p.true,
      c.loop-p.invariant,
    )

pub loop-p-preserved : goal.loop-p-preserved
loop-p-preserved c =
    let hinges = c.args.hinges.now in
    below_more (λ q. ¬ (IsApart c.args.raw.now c.args.root.0 q)) c.loop-p.p c.loop-p.invariant
    (not_apart c.args.raw.now hinges.creases.items hinges.all.items c.args.groups.now c.loop-p.p c.args.root.0
    c.requires.hinges c.requires.groups c.requires.dieline.faces c.requires.root c.if-groups-p.false)

pub returns : goal.returns
returns c = λ q far. c.loop-p.invariant q (omega (arith, far.0, c.len-p-end.ensures, c.loop-p-test.false)) far
