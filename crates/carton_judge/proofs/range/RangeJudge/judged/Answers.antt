use Rattle.std.proofs.Common.{subst}
use Rattle.carton_part.specs.Answers.{IsVerdictOf}
use Rattle.carton_judge.specs.Ranges.{Bench}
use Rattle.carton_judge.proofs.range.RangeJudge.judged.Goals as goal

pub judge_open-requires-clause-pairs : goal.judge_open-requires-clause-pairs
judge_open-requires-clause-pairs c =
    c.self.invariant.pairs c.args.motion.now (c.is_within.ensures c.if-is_within.true)

pub returns-then-is_within : goal.returns-then-is_within
returns-then-is_within c =
    subst (λ (b : Bench). IsVerdictOf b.carton c.args.motion.now b.slack c.judge_open.result) c.self.view_is
    c.judge_open.ensures

pub returns : goal.returns
returns c = subst (λ (b : Bench). IsVerdictOf b.carton c.args.motion.now b.slack c.judge_motion.result)
    c.self.view_is c.judge_motion.ensures
