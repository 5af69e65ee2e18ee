-- Panels of the flat dieline: their positions, and when two of them are parted.
use Rattle.std.specs.Prelude.{◌≡◌, ℕ, List, pos, ◌<ℤ◌}
use Rattle.carton_base.specs.declared.dieline.Point.{Point}
use Rattle.carton_model.specs.Parting.{Position, PartedIn}
use Rattle.carton_panels.specs.Shrinking.{InShrunk}

-- the position is that of a point of the shrunk panel, at height 0
pub record IsFlat (m : ℕ) (ps : List Point) (p : Position) : Type 0 where
  pub positive : pos 0 <ℤ p.w
  pub level : p.z ≡ pos 0
  pub inside : InShrunk m ps p.x p.y p.w

-- some direction parts two shrunk panels by more than 0 in the flat dieline, where all panels lie in one
-- frame
abbrev pub IsFlatParted : ℕ → List Point → ℕ → List Point → Type 0
IsFlatParted m ps n qs = PartedIn (pos 0) (λ (f : Unit {0}). IsFlat m ps) (λ (f : Unit {0}). IsFlat n qs) tt
