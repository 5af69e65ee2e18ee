use Rattle.std.proofs.Common.{arith, ◌+◌}
use Rattle.carton_plan_commands.proofs.Judged.{next_row, finish}
use Rattle.carton_plan_commands.proofs.flat.judge.Goals as goal

pub loop-a-preserved : goal.loop-a-preserved
loop-a-preserved c = next_row c.args.margin c.args.raw.now c.loop-a.a c.in-Parted.judged
    c.requires.valid.faces c.in-Parted.ensures

pub returns : goal.returns
returns c = finish c.args.margin c.args.raw.now c.loop-a.a (c.loop-a.a + 1) c.loop-a.count
    (omega (arith, c.requires.whole)) c.loop-a.invariant
