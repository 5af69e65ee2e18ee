use Rattle.std.proofs.Common.{ℕ, ◌<◌}
use Rattle.std.specs.Prelude.{IfSome}
use Rattle.carton_part.specs.Parted.{AreStrangers}
use Rattle.carton_report.specs.Tightest.{IsTight, StayClear, clearance_of}
use Rattle.carton_report.proofs.tightest.tightest.Given as goal

abbrev pub invariant-loop-a : goal.invariant-loop-a
invariant-loop-a l =
    IfSome l.found (IsTight l.carton l.motion)
    × ((a b : ℕ) → a < l.a → AreStrangers l.carton a b
    → StayClear l.carton l.motion a b (clearance_of l.found))
