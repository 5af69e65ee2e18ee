-- Pairs of panels that are still to be judged: the table has a row for each panel, and in it a place for
-- each.
use Rattle.std.specs.Prelude.{◌≡◌, ℕ, ◌<◌, List, [], length, get_or, Bool, false, IsTrue, Option, Some}
use Rattle.std.specs.Prelude.{IfSome, pos, ◌*ℤ◌}
use Rattle.carton_base.specs.declared.limits.TheConstants.{MOST_PANELS}
use Rattle.carton_base.specs.declared.motion.Motion.{Motion}
use Rattle.carton_base.specs.declared.motion.State.{State}
use Rattle.carton_reach.specs.Ranges.{IsMotionBetween}
use Rattle.carton_reach.specs.Reaches.{SomeApart, half}
use Rattle.carton_tree.specs.Trees.{Tree}
use Rattle.carton_part.specs.declared.closing.Placed.{Placed}
use Rattle.carton_part.specs.Answers.{StayParted}
use Rattle.carton_part.specs.Looks.{IsReachIn}
use Rattle.carton_part.specs.Parted.{AreStrangers}

-- the place of panel b in a row
abbrev pub is_open : List Bool → ℕ → Bool
is_open row b = get_or row b false

-- the open places in the row of panel a are panels that share no crease with it, and each such panel that
-- isn't open stays parted from a
pub record IsRowOf (t : Tree) (motion : Motion) (a : ℕ) (row : List Bool) : Type 0 where
  pub count : length row ≡ MOST_PANELS
  pub open_are : (b : ℕ) → IsTrue (is_open row b) → AreStrangers t a b
  pub others : (b : ℕ) → AreStrangers t a b → is_open row b ≡ false → StayParted t motion a b (pos 0)

-- the same of each row
pub record AreRowsOf (t : Tree) (motion : Motion) (rows : List (List Bool)) : Type 0 where
  pub count : length rows ≡ MOST_PANELS
  pub each : (a : ℕ) → a < MOST_PANELS → IsRowOf t motion a (get_or rows a [])

-- P of each move between the two states
abbrev pub ForMoves : State → State → (Motion → Type 0) → Type 0
ForMoves low high P = (motion : Motion) → IsMotionBetween low high motion → P motion

-- the panels a and b stay parted in every move between the two states
abbrev pub StayPartedBetween : Tree → State → State → ℕ → ℕ → Type 0
StayPartedBetween t low high a b = ForMoves low high (λ motion. StayParted t motion a b (pos 0))

-- in every move between the two states the row `now` tells as much as the row `before`
abbrev pub TellsAsMuch : Tree → State → State → ℕ → List Bool → List Bool → Type 0
TellsAsMuch t low high a before now =
    ForMoves low high (λ motion. IsRowOf t motion a before → IsRowOf t motion a now)

-- the same of tables
abbrev pub TellAsMuch : Tree → State → State → List (List Bool) → List (List Bool) → Type 0
TellAsMuch t low high before now =
    ForMoves low high (λ motion. AreRowsOf t motion before → AreRowsOf t motion now)

-- the table has a row for each panel, and each row a place for each
pub record IsTable (rows : List (List Bool)) : Type 0 where
  pub count : length rows ≡ MOST_PANELS
  pub each : (a : ℕ) → a < MOST_PANELS → length (get_or rows a []) ≡ MOST_PANELS

-- in every move between the two states each reach that is known is that of its place's panel, in the frame
-- that it tells
pub record AreKnown (t : Tree) (low high : State) (known : List (Option Placed)) : Type 0 where
  pub count : length known ≡ MOST_PANELS
  pub each : (p : ℕ) (d : Option Placed) → p < MOST_PANELS
      → IfSome (get_or known p d) (λ e.
      ForMoves low high (λ motion. IsReachIn t motion p e.frame.0 0 0 e.reaches))

-- both reaches are known in the frame of panel f, and they are apart
pub record AreApartIn (f : ℕ) (p q : Placed) : Type 0 where
  pub first : p.frame.0 ≡ f
  pub second : q.frame.0 ≡ f
  pub apart : SomeApart (pos 0 *ℤ half) p.reaches.axes q.reaches.axes

abbrev pub AreKnownApart : ℕ → Option Placed → Option Placed → Type 0
AreKnownApart f (Some p) (Some q) = AreApartIn f p q
AreKnownApart f p q = ⊥
