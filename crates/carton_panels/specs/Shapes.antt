-- A panel as a shape: where its vertices stand, its margin, its corners, and the corners of the shrunk panel.
use Rattle.std.specs.Prelude.{◌≡◌, ℕ, ◌<◌, ◌≤◌, List, length, map, All, AllPairs, ℤ, pos, ◌<ℤ◌}
use Rattle.carton_base.specs.declared.dieline.Point.{Point}
use Rattle.carton_base.specs.declared.numbers.Triple.{Triple}
use Rattle.carton_panels.specs.Panels.{IsDistinct, IsConvex, corners_of}
use Rattle.carton_panels.specs.Shrinking.{InShrunk, HasRoom, IsMeanOf, IsSamePoint}
use Rattle.carton_panels.specs.Crossings.{IsInsetCorner}
use Rattle.carton_base.specs.declared.limits.TheConstants.{LEAST_CORNERS, MOST_CORNERS, WIDEST_MARGIN}
use Rattle.carton_model.specs.Dielines.{IsNear}
use Rattle.carton_model.specs.Points.{IsNearPoint, IsSmall}

pub record Shape : Type 0 where
  pub places : List Point
  pub margin : ℕ
  pub corners : List Triple
  pub shrunk : List Triple

-- the flat place of a triple with w = 1
abbrev pub place_of : Triple → Point
place_of t = record { x = t.x; y = t.y }

-- what holds of every panel
pub record IsShape (s : Shape) : Type 0 where
  pub some_places : LEAST_CORNERS ≤ length s.places
  pub few_places : length s.places ≤ MOST_CORNERS
  pub near : All IsNear s.places
  pub distinct : IsDistinct s.places
  pub convex : IsConvex s.places
  pub margin : s.margin ≤ WIDEST_MARGIN
  pub room : HasRoom s.margin s.places
  pub corners : map place_of s.corners ≡ corners_of s.places
  pub whole : All (λ t. t.w ≡ pos 1) s.corners
  pub some_shrunk : 0 < length s.shrunk
  pub members : All (λ t. InShrunk s.margin s.places t.x t.y t.w) s.shrunk
  pub generates : (x y w : ℤ) → pos 0 <ℤ w → InShrunk s.margin s.places x y w → IsMeanOf s.shrunk x y w
  pub once : AllPairs (λ a b. ¬ (IsSamePoint a b)) s.shrunk
  pub shrunk_near : All IsNearPoint s.shrunk
  pub small : All IsSmall s.shrunk
  pub shrunk_corners : All (IsInsetCorner s.margin s.places) s.shrunk
