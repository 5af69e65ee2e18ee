use Rattle.std.proofs.Common.{ℕ, ◌<◌, pos}
use Rattle.carton_part.specs.Answers.{StayParted}
use Rattle.carton_part.specs.Parted.{AreStrangers}
use Rattle.carton_part.proofs.judging.blocked_in.Given as goal

abbrev pub invariant-loop-b : goal.invariant-loop-b
invariant-loop-b g l = (b : ℕ) → b < l.b → AreStrangers l.carton l.a.0 b
    → StayParted l.carton l.motion l.a.0 b (pos 0)
