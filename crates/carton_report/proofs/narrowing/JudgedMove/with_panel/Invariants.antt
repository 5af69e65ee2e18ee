use Rattle.std.proofs.Common.{ℕ, ◌<◌, ◌≤◌}
use Rattle.std.specs.Prelude.{IfSome}
use Rattle.carton_part.specs.Parted.{AreStrangers}
use Rattle.carton_report.specs.Tightest.{IsTight, StayClear, clearance_of}
use Rattle.carton_report.proofs.narrowing.JudgedMove.with_panel.Given as goal

abbrev pub invariant-loop-b : goal.invariant-loop-b
invariant-loop-b l =
    IfSome l.tightest (IsTight l.self.carton.now l.self.motion.now)
    × (clearance_of l.tightest ≤ clearance_of l.fn.so_far)
    × ((b : ℕ) → b < l.b → AreStrangers l.self.carton.now l.a.0 b
    → StayClear l.self.carton.now l.self.motion.now l.a.0 b (clearance_of l.tightest))
