-- The verdict on a state of a carton, whose panels are to keep apart.
use Rattle.std.specs.Prelude.{ℕ, pos}
use Rattle.carton_base.specs.declared.motion.State.{State}
use Rattle.carton_place.specs.States.{fold_in}
use Rattle.carton_tree.specs.Trees.{Tree}
use Rattle.carton_part.specs.declared.judging.Verdict.{Verdict}
use Rattle.carton_part.specs.declared.judging.Verdict.TheVariants.{Clear, Blocked}
use Rattle.carton_part.specs.Beginnings.{IsBeginning}
use Rattle.carton_part.specs.Parted.{AreStrangers, ArePartedBy, AreAllParted}

-- what is told of a state: all panels that share no crease are parted, or two of them aren't by more than
-- half the slack, at the moment 0 / 1
abbrev pub IsVerdictAt : Tree → State → ℕ → Verdict → Type 0
IsVerdictAt t s slack Clear = AreAllParted t (fold_in s) (pos 0)
IsVerdictAt t s slack (Blocked a b m) = AreStrangers t a.0 b.0
    × ¬ (ArePartedBy t (fold_in s) a.0 b.0 (pos slack)) × IsBeginning m
