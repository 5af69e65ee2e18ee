use Rattle.std.proofs.Common.{subst, rules, to_z-of_z, SFits}
use Rattle.std.specs.Int.{w64}
use Rattle.carton_part.specs.Answers.{IsPartingOf}
use Rattle.carton_report.proofs.narrowing.JudgedMove.parting.Goals as goal

pub returns : goal.returns
returns c =
    let fits : SFits w64 c.from.result = search rules in
    let told = simp to_z-of_z at c.part_over.ensures in
    subst (λ gap. IsPartingOf c.args.self.now.carton.now c.args.self.now.motion.now c.args.a.0 c.args.b.0 gap 1
    c.part_over.result) c.from.ensures told
