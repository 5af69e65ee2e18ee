use Rattle.std.proofs.Common.{ℕ, below_more, arith}
use Rattle.carton_part.specs.Parted.{AreStrangers}
use Rattle.carton_report.specs.Tightest.{StayClear, clearance_of}
use Rattle.carton_report.proofs.Nearer.{clear_less}
use Rattle.carton_report.proofs.narrowing.JudgedMove.with_panel.Goals as goal

pub loop-b-preserved : goal.loop-b-preserved
loop-b-preserved c =
    let t = c.args.self.now.carton.now in
    let before = c.loop-b.invariant in
    let after = c.with_pair-tightest.ensures in
    let Stay = λ (b : ℕ). AreStrangers t c.args.a.0 b
    → StayClear t c.args.self.now.motion.now c.args.a.0 b (clearance_of c.with_pair-tightest.result) in (
      after.tight,
      omega (arith, before.1, after.less),
      below_more Stay c.loop-b.b (λ b l s. clear_less t c.args.self.now.motion.now c.args.a.0 b _ _ after.less
          (before.2 b l s)) after.clear,
    )
