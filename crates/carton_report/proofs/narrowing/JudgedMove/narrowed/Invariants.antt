use Rattle.std.proofs.Common.{◌≤◌, ◌-◌, pos}
use Rattle.carton_part.specs.Answers.{AreUnparted}
use Rattle.carton_report.specs.Tightest.{StayClear}
use Rattle.carton_report.proofs.narrowing.JudgedMove.narrowed.Given as goal

abbrev pub invariant-loop-certified : goal.invariant-loop-certified
invariant-loop-certified l =
    (l.certified ≤ l.near.clear) × (l.near.clear ≤ l.fn.first.clear)
    × StayClear l.self.carton.now l.self.motion.now l.a.0 l.b.0 l.certified
    × AreUnparted l.self.carton.now l.self.motion.now l.a.0 l.b.0 (pos l.near.clear) 1
    l.near.moment

abbrev pub decreases-loop-certified : goal.decreases-loop-certified
decreases-loop-certified l = l.near.clear - l.certified
