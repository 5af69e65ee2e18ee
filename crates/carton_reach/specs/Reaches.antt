-- How far the corners of a panel reach along an axis, at every moment of a piece. Units are 2^-40.
use Rattle.std.specs.Prelude.{ℕ, ◌+◌, ◌-◌, ◌*◌, ◌<◌, ◌≤◌, ◌^◌, List, get_or, ℤ, pos, ◌+ℤ◌, ◌*ℤ◌, ◌≤ℤ◌, ◌<ℤ◌}
use Rattle.std.specs.Prelude.{◌⊎◌}
use Rattle.carton_base.specs.Moments.{IsMoment, InPiece}
use Rattle.carton_base.specs.Rounding.{unit}
use Rattle.carton_model.specs.Parting.{Position}
use Rattle.carton_enclose.specs.Points.{dot}
use Rattle.carton_reach.specs.declared.reach.Reach.{Reach}
use Rattle.carton_reach.specs.Axes.{axis_at}
use Rattle.carton_reach.specs.Beyond.{Spots}

-- P at each moment n / d of the move that lies in the piece
abbrev pub Within : ℕ → ℕ → (ℕ → ℕ → Type 0) → Type 0
Within index depth P = (n d : ℕ) → IsMoment n d → InPiece index depth n d → P n d

-- the position lies along the direction at low units or above
abbrev pub IsAbove : List ℤ → ℤ → Position → Type 0
IsAbove v low p = (low *ℤ p.w) ≤ℤ (dot v p.x p.y p.z *ℤ unit)

-- the position lies along the direction at high units or below
abbrev pub IsBelow : List ℤ → ℤ → Position → Type 0
IsBelow v high p = (dot v p.x p.y p.z *ℤ unit) ≤ℤ (high *ℤ p.w)

-- one of the corners from the one to before the other has P
abbrev pub SomeCorner : ℕ → ℕ → (ℕ → Type 0) → Type 0
SomeCorner from past P = (k : ℕ) × (from ≤ k) × (k < past) × P k

-- to how many units the cosine and the sine of a joint are known over a piece of this depth, at most 40: in a
-- move no joint turns by more than half a right angle, and a piece is 2^-depth of it
abbrev pub swing_units : ℕ → ℕ
swing_units depth = 2 ^ (40 - depth) + 2

-- and to how many a corner along an axis, after at most 8 turns
abbrev pub units_at : ℕ → ℕ
units_at depth = 3 * 2 ^ 27 * swing_units depth

-- the reach of these corners along the direction over the piece; the shorter the piece, the closer the bounds
pub record IsReach (spots : Spots) (from past index depth : ℕ) (v : List ℤ) (r : Reach) : Type 0 where
  pub above : (k : ℕ) → from ≤ k → k < past → Within index depth (λ n d. IsAbove v r.least_low (spots k n d))
  pub below : (k : ℕ) → from ≤ k → k < past
      → Within index depth (λ n d. IsBelow v r.greatest_high (spots k n d))
  pub some_below : SomeCorner from past
      (λ k. Within index depth (λ n d. IsBelow v r.least_high (spots k n d)))
  pub some_above : SomeCorner from past
      (λ k. Within index depth (λ n d. IsAbove v r.greatest_low (spots k n d)))
  pub close_lows : r.least_high ≤ℤ (r.least_low +ℤ pos (units_at depth))
  pub close_highs : r.greatest_high ≤ℤ (r.greatest_low +ℤ pos (units_at depth))

-- the reaches of these corners along the 13 axes
abbrev pub AreReaches : Spots → ℕ → ℕ → ℕ → ℕ → List Reach → Type 0
AreReaches spots from past index depth rs = (a : ℕ) (d : Reach) → a < 13
    → IsReach spots from past index depth (axis_at a) (get_or rs a d)

-- half a unit of length
abbrev pub half : ℤ
half = pos (2 ^ 39)

-- all second corners lie beyond all first ones by more than the room
abbrev pub IsApart : ℤ → Reach → Reach → Type 0
IsApart room p q = (p.greatest_high +ℤ room) <ℤ q.least_low

-- some second corner never lies beyond some first one by more than the room
abbrev pub IsNear : ℤ → Reach → Reach → Type 0
IsNear room p q = q.least_high ≤ℤ (p.greatest_low +ℤ room)

abbrev pub SomeApart : ℤ → List Reach → List Reach → Type 0
SomeApart room ps qs = (a : ℕ) × (d : Reach) × (a < 13)
    × (IsApart room (get_or ps a d) (get_or qs a d) ⊎ IsApart room (get_or qs a d) (get_or ps a d))

abbrev pub AllNear : ℤ → List Reach → List Reach → Type 0
AllNear room ps qs = (a : ℕ) (d : Reach) → a < 13 → IsNear room (get_or ps a d) (get_or qs a d)
    × IsNear room (get_or qs a d) (get_or ps a d)
