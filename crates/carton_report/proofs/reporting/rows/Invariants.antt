use Rattle.std.proofs.Common.{◌≡◌, length}
use Rattle.carton_report.specs.Clearances.{AreRows}
use Rattle.carton_report.proofs.reporting.rows.Given as goal

abbrev pub invariant-loop-i : goal.invariant-loop-i
invariant-loop-i l = (length l.rows ≡ l.i) × AreRows l.carton l.states l.rows
