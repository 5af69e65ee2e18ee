use Rattle.std.proofs.Common.{refl, subst}
use Rattle.carton_report.specs.Tightest.{StayClear}
use Rattle.carton_report.proofs.narrowing.JudgedMove.with_pair.Goals as goal

pub returns-in-None-clause-clear : goal.returns-in-None-clause-clear
returns-in-None-clause-clear c =
    λ _. subst (λ clear. StayClear c.args.self.now.carton.now c.args.self.now.motion.now c.args.a.0 c.args.b.0
    clear) c.clearance.ensures (c.in-None.ensures.none refl)
