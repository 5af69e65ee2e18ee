-- What is answered of two panels, and of all, over a move.
use Rattle.std.specs.Prelude.{◌≡◌, ℕ, ◌≤◌, ◌^◌, ℤ, pos, ◌+ℤ◌, ◌*ℤ◌}
use Rattle.carton_base.specs.Moments.{IsMoment}
use Rattle.carton_base.specs.declared.limits.TheConstants.{MOST_HALVINGS}
use Rattle.carton_base.specs.declared.moments.Moment.{Moment}
use Rattle.carton_base.specs.declared.motion.Motion.{Motion}
use Rattle.carton_model.specs.Moves.{fold_at}
use Rattle.carton_tree.specs.Trees.{Tree}
use Rattle.carton_part.specs.declared.over.Parting.{Parting}
use Rattle.carton_part.specs.declared.over.Parting.TheVariants.{Parted, Undecided}
use Rattle.carton_part.specs.declared.judging.Verdict.{Verdict}
use Rattle.carton_part.specs.declared.judging.Verdict.TheVariants.{Clear, Blocked}
use Rattle.carton_part.specs.Parted.{ArePartedBy, ArePartedIn, AreAllParted, AreStrangers, AtEachMoment}

-- the moment is one of a move, its den is a power of two up to 2^36, and P holds there
pub record IsHalvedMoment (m : Moment) (P : ℕ → ℕ → Type 0) : Type 0 where
  pub n : ℕ
  pub depth : ℕ
  pub shallow : depth ≤ MOST_HALVINGS
  pub num : m.num ≡ pos n
  pub den : m.den ≡ pos (2 ^ depth)
  pub moment : IsMoment n (2 ^ depth)
  pub there : P n (2 ^ depth)

-- at the moment n / d of the move a and b are parted by more than the gap
abbrev pub ArePartedAt : Tree → Motion → ℕ → ℕ → ℤ → ℕ → ℕ → Type 0
ArePartedAt t motion a b gap n d = ArePartedBy t (fold_at motion n d) a b (pos 2 *ℤ gap)

-- at the moment n / d of the move they aren't parted by more than the gap and half the slack
abbrev pub AreUnpartedAt : Tree → Motion → ℕ → ℕ → ℤ → ℕ → ℕ → ℕ → Type 0
AreUnpartedAt t motion a b gap slack n d =
    ¬ (ArePartedBy t (fold_at motion n d) a b (pos 2 *ℤ gap +ℤ pos slack))

-- so it is in the frame of panel f
abbrev pub AreUnpartedIn : Tree → Motion → ℕ → ℕ → ℤ → ℕ → ℕ → ℕ → ℕ → Type 0
AreUnpartedIn t motion a b gap slack f n d =
    ¬ (ArePartedIn t (fold_at motion n d) a b (pos 2 *ℤ gap +ℤ pos slack) f)

-- at every moment of the move a and b are parted by more than the gap
abbrev pub StayParted : Tree → Motion → ℕ → ℕ → ℤ → Type 0
StayParted t motion a b gap = AtEachMoment (ArePartedAt t motion a b gap)

-- at this moment of the move a and b aren't parted by more than the gap and half the slack
abbrev pub AreUnparted : Tree → Motion → ℕ → ℕ → ℤ → ℕ → Moment → Type 0
AreUnparted t motion a b gap slack m = IsHalvedMoment m (AreUnpartedAt t motion a b gap slack)

-- at every moment of the move all panels that share no crease are parted by more than the gap
abbrev pub StayAllParted : Tree → Motion → ℤ → Type 0
StayAllParted t motion gap = AtEachMoment (λ n d. AreAllParted t (fold_at motion n d) (pos 2 *ℤ gap))

-- panels a and b share no crease, and at this moment they aren't parted by more than half the slack
abbrev pub AreBlocked : Tree → Motion → ℕ → ℕ → ℕ → Moment → Type 0
AreBlocked t motion a b slack m = AreStrangers t a b × AreUnparted t motion a b (pos 0) slack m

-- what is told of a and b: that they stay parted, or a moment at which they aren't
abbrev pub IsPartingOf : Tree → Motion → ℕ → ℕ → ℤ → ℕ → Parting → Type 0
IsPartingOf t motion a b gap slack Parted = StayParted t motion a b gap
IsPartingOf t motion a b gap slack (Undecided m) = AreUnparted t motion a b gap slack m

-- what is told of all: that they stay parted, or two that don't
abbrev pub IsVerdictOf : Tree → Motion → ℕ → Verdict → Type 0
IsVerdictOf t motion slack Clear = StayAllParted t motion (pos 0)
IsVerdictOf t motion slack (Blocked a b m) = AreBlocked t motion a.0 b.0 slack m
