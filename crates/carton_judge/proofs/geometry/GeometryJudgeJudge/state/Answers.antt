use Rattle.std.proofs.Common.{refl}
use Rattle.carton_part.proofs.Still.{clear_still, blocked_still}
use Rattle.carton_judge.proofs.geometry.GeometryJudgeJudge.state.Goals as goal

pub returns-in-Clear-clause-verdict : goal.returns-in-Clear-clause-verdict
returns-in-Clear-clause-verdict c = clear_still c.args.self.now.carton.now c.args.at.now c.in-Clear.ensures

pub returns-in-Blocked-clause-verdict : goal.returns-in-Blocked-clause-verdict
returns-in-Blocked-clause-verdict c = (
  c.in-Blocked.ensures.0,
  blocked_still c.args.self.now.carton.now c.args.at.now c.in-Blocked.a.0
      c.in-Blocked.b.0 c.args.self.now.slack c.in-Blocked.moment c.in-Blocked.ensures.1,
  record {
    num = refl;
    den = refl;
  },
)
