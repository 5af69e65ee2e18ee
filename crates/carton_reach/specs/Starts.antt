-- Corners that stand at starts before the turns of joints.
use Rattle.std.specs.Prelude.{◌≡◌, ℕ, ◌-◌, ◌*◌, ◌<◌, ◌≤◌, ◌^◌, List, length, get_or, All}
use Rattle.carton_base.specs.declared.motion.Turn.{Turn}
use Rattle.carton_model.specs.Parting.{Position}
use Rattle.carton_model.specs.Turning.{Angle, turned_through}
use Rattle.carton_enclose.specs.Held.{size_of, spread_of}
use Rattle.carton_place.specs.declared.swings.Swing.{Swing}
use Rattle.carton_place.specs.Held.{HoldSwings, IsSwingWithin}
use Rattle.carton_place.specs.Sizes.{edge_of_sheet}
use Rattle.carton_place.specs.Swings.{IsFlatWithin}
use Rattle.carton_tree.specs.declared.start.Start.{Start}
use Rattle.carton_reach.specs.Beyond.{Spots, ArePositive}
use Rattle.carton_reach.specs.Reaches.{Within, swing_units}

-- the start of a flat point of the sheet: both coordinates are known to one unit
pub record IsNearStart (s : Start) : Type 0 where
  pub x : size_of s.x.lo s.x.hi ≤ edge_of_sheet
  pub y : size_of s.y.lo s.y.hi ≤ edge_of_sheet
  pub close_x : spread_of s.x.lo s.x.hi ≤ 1
  pub close_y : spread_of s.y.lo s.y.hi ≤ 1

-- the position is that of a flat place within the start after the turns, by angles that the swings have at
-- the moment m / d
pub record IsTurnedFrom (turns : List Turn) (swings : List Swing) (s : Start) (m d : ℕ) (p : Position) : Type
    0 where
  pub angles : List Angle
  pub flat : Position
  pub have : HoldSwings swings m d angles
  pub start : IsFlatWithin s.x s.y flat
  pub after : p ≡ turned_through turns angles flat

-- at every moment of the piece the corners stand where the turns take the starts, by angles that the swings
-- have at that moment of the piece; below depth 0 these are known to so many units
pub record AreTurnedFrom (turns : List Turn) (swings : List Swing) (starts : List Start) (spots : Spots)
    (index depth : ℕ) : Type 0 where
  pub positive : ArePositive spots
  pub turned : (k : ℕ) (s : Start) → k < length starts
      → Within index depth (λ n d. IsTurnedFrom turns swings (get_or starts k s) (n * 2 ^ depth - index * d) d
      (spots k n d))
  pub close : 0 < depth → All (IsSwingWithin (swing_units depth)) swings
