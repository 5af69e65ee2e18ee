-- Moves of a guide's window, and what a guide that fits keeps at them, in stops of the grid.
use Rattle.std.specs.Prelude.{◌≡◌, ℕ, ◌+◌, ◌≤◌, List, slice_get, Some, pos}
use Rattle.carton_base.specs.declared.bodies.Guide.{Guide}
use Rattle.carton_base.specs.declared.dieline.Point.{Point}
use Rattle.carton_base.specs.declared.motion.State.{State}
use Rattle.carton_model.specs.Moves.{IsStop, stop_of}
use Rattle.carton_panels.specs.Shrinking.{InShrunk}
use Rattle.carton_reach.specs.Spots.{shape_at}
use Rattle.carton_tree.specs.Trees.{Tree}
use Rattle.carton_guide.specs.declared.note.End.{End}
use Rattle.carton_guide.specs.Bands.{band_stops, shifted}

-- move i is one of the guide's window
pub record InWindow (g : Guide) (i : ℕ) : Type 0 where
  pub from : g.first ≤ i
  pub upto : i ≤ g.last

-- at both ends of the band the stop of the joint at the place is a stop
abbrev pub HasBandAt : ℕ → ℕ → State → Type 0
HasBandAt band place s = (end : End) → IsStop s.grid (shifted end (band_stops s.grid band) (stop_of s place))

-- so they are at each state of the guide's moves
abbrev pub StaysInBand : List State → Guide → ℕ → Type 0
StaysInBand states g place = (i : ℕ) (s : State) → g.first ≤ i → i ≤ g.last + 1 → slice_get states i ≡ Some s
    → HasBandAt g.band place s

-- the flat point lies in the shrunk panel
abbrev pub IsOnPanel : Tree → ℕ → Point → Type 0
IsOnPanel t panel p = InShrunk (shape_at t panel).margin (shape_at t panel).places p.x p.y (pos 1)
