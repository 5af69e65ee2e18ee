use Rattle.std.proofs.Common.{ℕ, ◌<◌, pos}
use Rattle.carton_part.specs.Answers.{StayParted}
use Rattle.carton_part.specs.Parted.{AreStrangers}
use Rattle.carton_part.proofs.judging.walk_rows.Given as goal

abbrev pub invariant-loop-a : goal.invariant-loop-a
invariant-loop-a g l = (a b : ℕ) → a < l.a → AreStrangers l.carton a b
    → StayParted l.carton l.motion a b (pos 0)
