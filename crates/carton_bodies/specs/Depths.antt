-- How deep a spot lies in a body over a piece of a move, within bounds in units of 2^-40.
use Rattle.std.specs.Prelude.{◌≡◌, ℕ, List, ℤ, pos, ◌+ℤ◌, ◌-ℤ◌, ◌*ℤ◌, ◌≤ℤ◌, ◌<ℤ◌}
use Rattle.carton_base.specs.Rounding.{IsBetween, unit}
use Rattle.carton_base.specs.declared.numbers.Bounds.{Bounds}
use Rattle.carton_model.specs.Parting.{Position}
use Rattle.carton_reach.specs.Reaches.{Within}
use Rattle.carton_bodies.specs.Bodies.{Side, IsInSide, IsDeeperInSide, IsInBody, IsDeeper}
use Rattle.carton_bodies.specs.declared.spot.Spot.{Spot}
use Rattle.carton_bodies.specs.Spots.{IsAt, IsNarrow}

-- c times a number from lo to hi lies from low to high, which are at most 128 times as far apart
pub record IsScaled (c lo hi low high : ℤ) : Type 0 where
  pub holds : (x : ℤ) (v : ℕ) → IsBetween lo hi x v → IsBetween low high (c *ℤ x) v
  pub close : (high -ℤ low) ≤ℤ (pos 128 *ℤ (hi -ℤ lo))

-- P of each position within the spot, at each moment of the piece
abbrev pub ForEach : Spot → ℕ → ℕ → (ℕ → ℕ → Position → Type 0) → Type 0
ForEach spot index depth P = Within index depth (λ n d. (q : Position) → IsAt spot q → P n d q)

-- the bounds tell how deep positions within the spot lie, where In and Deeper say what it is to lie in
-- something and deeper in it
-- than a gap: in it throughout where the bounds do not lie below 0, and deeper than a gap at no moment where
-- they do not lie above it
pub record IsDepth (spot : Spot) (index depth : ℕ) (In : ℕ → ℕ → Position → Type 0)
    (Deeper : ℤ → ℕ → ℕ → Position → Type 0) (b : Bounds) : Type 0 where
  pub inside : pos 0 ≤ℤ b.lo → ForEach spot index depth In
  pub shallow : (gap : ℤ) → b.hi ≤ℤ (gap *ℤ unit) → ForEach spot index depth (λ n d q. ¬ (Deeper gap n d q))
  pub close : depth ≡ 36 → IsNarrow spot → b.hi <ℤ (b.lo +ℤ unit)

-- how deep it lies in a half-space during move i
abbrev pub IsDepthAt : Side → List ℤ → ℕ → Spot → ℕ → ℕ → Bounds → Type 0
IsDepthAt side stroke i spot index depth b =
    IsDepth spot index depth (λ n d q. IsInSide stroke i n d q side)
    (λ gap n d q. IsDeeperInSide gap stroke i n d q side) b

-- how deep it lies in the body of these sides
abbrev pub IsDepthIn : List Side → List ℤ → ℕ → Spot → ℕ → ℕ → Bounds → Type 0
IsDepthIn sides stroke i spot index depth b =
    IsDepth spot index depth (λ n d q. IsInBody sides stroke i n d q)
    (λ gap n d q. IsDeeper gap sides stroke i n d q) b
