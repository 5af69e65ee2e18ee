-- The rules that a catalogue keeps.
use Rattle.std.specs.Prelude.{◌≡◌, ◌≤◌, List, length, All, ℤ, ◌<ℤ◌, unsigned_abs}
use Rattle.carton_base.specs.declared.bodies.Cuboid.{Cuboid}
use Rattle.carton_base.specs.declared.bodies.Guide.{Guide}
use Rattle.carton_model.specs.Dielines.{IsNear}
use Rattle.carton_text.specs.JobRules.{IsEdgeNumber, IsWithin}
use Rattle.carton_catalogue.specs.declared.catalogue.Catalogue.{Catalogue}
use Rattle.carton_catalogue.specs.declared.limits.TheConstants.{FARTHEST_CORNER, LAST_MOVE, MOST_BODIES}
use Rattle.carton_catalogue.specs.declared.limits.TheConstants.{MOST_GUIDES, MOST_PROBES, WIDEST_BAND}

-- the number lies within the bounds of a catalogue
abbrev pub IsCoordinate : ℤ → Type 0
IsCoordinate z = unsigned_abs z ≤ FARTHEST_CORNER

-- the two sides of a box lie within the bounds, the one below the other
pub record IsSpan (low high : ℤ) : Type 0 where
  pub from : IsCoordinate low
  pub upto : IsCoordinate high
  pub ordered : low <ℤ high

-- a box that a catalogue may have
pub record IsBody (b : Cuboid) : Type 0 where
  pub x : IsSpan b.x0 b.x1
  pub y : IsSpan b.y0 b.y1
  pub z : IsSpan b.z0 b.z1

-- how far bodies are displaced in each move
pub record IsStroke (stroke : List ℤ) : Type 0 where
  pub three : length stroke ≡ 3
  pub each : All IsCoordinate stroke

-- a guide that a catalogue may have
pub record IsGuide (g : Guide) : Type 0 where
  pub edge : IsEdgeNumber g.edge
  pub first : g.first ≤ LAST_MOVE
  pub last : g.last ≤ LAST_MOVE
  pub band : IsWithin 1 WIDEST_BAND g.band
  pub some : 1 ≤ length g.probes
  pub few : length g.probes ≤ MOST_PROBES
  pub near : All IsNear g.probes

-- bodies that a catalogue may have
pub record AreBodies (bodies : List Cuboid) : Type 0 where
  pub few : length bodies ≤ MOST_BODIES
  pub each : All IsBody bodies

-- guides that a catalogue may have
pub record AreGuides (guides : List Guide) : Type 0 where
  pub some : 1 ≤ length guides
  pub few : length guides ≤ MOST_GUIDES
  pub each : All IsGuide guides

-- the catalogue keeps every rule of its text
pub record IsCatalogue (c : Catalogue) : Type 0 where
  pub stroke : IsStroke c.stroke
  pub bodies : AreBodies c.bodies
  pub guides : AreGuides c.guides
