-- How near panels come in a move: what the steps of a report tell on the way.
use Rattle.std.specs.Prelude.{ℕ, ◌<◌, Option, None, Some, pos, ◌-ℤ◌}
use Rattle.carton_base.specs.declared.motion.Motion.{Motion}
use Rattle.carton_tree.specs.Trees.{Tree}
use Rattle.carton_part.specs.Answers.{AreUnparted, StayParted}
use Rattle.carton_part.specs.Parted.{AreStrangers}
use Rattle.carton_report.specs.declared.cleared.TheConstants.{WIDE_CLEARANCE}
use Rattle.carton_report.specs.declared.narrowing.Near.{Near}
use Rattle.carton_report.specs.declared.tightest.Tight.{Tight}

-- at every moment panels a and b are parted by more than clear - 1
abbrev pub StayClear : Tree → Motion → ℕ → ℕ → ℕ → Type 0
StayClear t motion a b clear = StayParted t motion a b (pos clear -ℤ pos 1)

-- and so are every two that share no crease
abbrev pub AllStayClear : Tree → Motion → ℕ → Type 0
AllStayClear t motion clear = (a b : ℕ) → AreStrangers t a b → StayClear t motion a b clear

-- how near panels a and b come
pub record IsNearOf (t : Tree) (motion : Motion) (a b : ℕ) (near : Near) : Type 0 where
  pub certified : StayClear t motion a b near.clear
  pub there : AreUnparted t motion a b (pos near.clear) 1 near.moment

-- panels that share no crease and aren't parted well at the moment
pub record IsTight (t : Tree) (motion : Motion) (tight : Tight) : Type 0 where
  pub narrow : tight.clear < WIDE_CLEARANCE
  pub strangers : AreStrangers t tight.a.0 tight.b.0
  pub near : AreUnparted t motion tight.a.0 tight.b.0 (pos tight.clear) 1 tight.moment

-- how far the panels that were looked at are known to stay parted
abbrev pub clearance_of : Option Tight → ℕ
clearance_of None = WIDE_CLEARANCE
clearance_of (Some tight) = tight.clear
