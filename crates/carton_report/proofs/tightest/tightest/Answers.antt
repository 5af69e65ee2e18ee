use Rattle.std.proofs.Common.{ℕ, below_more}
use Rattle.carton_part.specs.Parted.{AreStrangers}
use Rattle.carton_report.specs.Tightest.{StayClear, clearance_of}
use Rattle.carton_report.proofs.Nearer.{clear_less}
use Rattle.carton_report.proofs.tightest.tightest.Goals as goal

pub loop-a-preserved : goal.loop-a-preserved
loop-a-preserved c =
    let t = c.args.carton.now in
    let before = c.loop-a.invariant in
    let after = c.with_panel-found.ensures in
    let Stay = λ (a : ℕ). (b : ℕ) → AreStrangers t a b
    → StayClear t c.args.motion.now a b (clearance_of c.with_panel-found.result) in
    let more = below_more Stay c.loop-a.a (λ a l b s. clear_less t c.args.motion.now a b _ _ after.less
    (before.1 a b l s)) after.clear in
    (after.tight, λ a b l s. more a l b s)
