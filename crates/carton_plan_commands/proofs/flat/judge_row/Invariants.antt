use Rattle.carton_plan_commands.specs.FlatPairs.{IsJudgedSoFar}
use Rattle.carton_plan_commands.proofs.flat.judge_row.Given as goal

abbrev pub invariant-loop-b : goal.invariant-loop-b
invariant-loop-b l = IsJudgedSoFar l.margin l.raw l.a l.b l.count
