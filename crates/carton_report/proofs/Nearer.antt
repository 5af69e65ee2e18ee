-- Panels that stay parted by more than so much stay parted by more than less.
use Rattle.std.proofs.Common.{ℕ, ◌+◌, ◌≤◌, pos, ◌-ℤ◌, ◌*ℤ◌, ℤ, ◌≤ℤ◌, arith}
use Rattle.std.proofs.lemmas.Int.{ints}
use Rattle.carton_base.specs.declared.motion.Motion.{Motion}
use Rattle.carton_tree.specs.Trees.{Tree}
use Rattle.carton_part.specs.Answers.{StayParted}
use Rattle.carton_part.proofs.Less.{parted_by_less}
use Rattle.carton_report.specs.Tightest.{StayClear}

pub stay_less : (t : Tree) (motion : Motion) (a b : ℕ) (more less : ℤ) → less ≤ℤ more
    → StayParted t motion a b more → StayParted t motion a b less
stay_less t motion a b more less le h =
    λ n d m. parted_by_less t _ a b (pos 2 *ℤ more) (pos 2 *ℤ less) (h n d m) (omega (arith, ints, le))

pub clear_less : (t : Tree) (motion : Motion) (a b more less : ℕ) → less ≤ more → StayClear t motion a b more
    → StayClear t motion a b less
clear_less t motion a b more less le h =
    stay_less t motion a b (pos more -ℤ pos 1) (pos less -ℤ pos 1) (omega (arith, ints, le)) h

-- panels that keep apart have the clearance 0
pub clear_none : (t : Tree) (motion : Motion) (a b : ℕ) → StayParted t motion a b (pos 0)
    → StayClear t motion a b 0
clear_none t motion a b h = stay_less t motion a b (pos 0) (pos 0 -ℤ pos 1) (omega (arith, ints)) h

-- panels that are parted by more than a gap have the clearance of one unit more
pub clear_gap : (t : Tree) (motion : Motion) (a b gap : ℕ) → StayParted t motion a b (pos gap)
    → StayClear t motion a b (gap + 1)
clear_gap t motion a b gap h = stay_less t motion a b (pos gap) (pos (gap + 1) -ℤ pos 1) (omega (arith, ints))
    h
