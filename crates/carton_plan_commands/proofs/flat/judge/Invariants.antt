use Rattle.std.proofs.Common.{◌+◌}
use Rattle.carton_plan_commands.specs.FlatPairs.{IsJudgedSoFar}
use Rattle.carton_plan_commands.proofs.flat.judge.Given as goal

abbrev pub invariant-loop-a : goal.invariant-loop-a
invariant-loop-a l = IsJudgedSoFar l.margin l.raw l.a (l.a + 1) l.count
