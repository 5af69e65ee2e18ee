-- What the extent of a body tells against the reach of a panel. Units are 2^-40.
use Rattle.std.specs.Prelude.{◌⊎◌, ℕ, ◌<◌, List, get_or, ℤ, ◌+ℤ◌, ◌-ℤ◌, ◌≤ℤ◌, ◌<ℤ◌}
use Rattle.carton_reach.specs.declared.reach.Reach.{Reach}
use Rattle.carton_bodies.specs.declared.extent.Extent.{Extent}

-- all of the body lies beyond all corners, or all corners beyond all of the body
abbrev pub IsApart : Reach → Extent → Type 0
IsApart r e = (r.greatest_high <ℤ e.least_low) ⊎ (e.greatest_high <ℤ r.least_low)

-- neither lies beyond the other by more than the room at any moment
abbrev pub IsNear : ℤ → Reach → Extent → Type 0
IsNear room r e = (e.least_high ≤ℤ (r.greatest_low +ℤ room)) × ((r.least_high -ℤ room) ≤ℤ e.greatest_low)

abbrev pub SomeApart : List Reach → List Extent → Type 0
SomeApart rs es = (a : ℕ) × (d : Reach) × (f : Extent) × (a < 13) × IsApart (get_or rs a d) (get_or es a f)

abbrev pub AllNear : ℤ → List Reach → List Extent → Type 0
AllNear room rs es = (a : ℕ) (d : Reach) (f : Extent) → a < 13 → IsNear room (get_or rs a d) (get_or es a f)
