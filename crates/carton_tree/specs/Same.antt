-- Two cartons that hang alike, whose panels have the same places and margins. The corners of their shrunk
-- panels may stand in other orders.
use Rattle.std.specs.Prelude.{◌≡◌, ℕ, ◌<◌, length, slice_index_or}
use Rattle.carton_panels.specs.Shapes.{Shape}
use Rattle.carton_tree.specs.Trees.{Tree}

-- panel p of the one has the places and the margin of panel p of the other
pub record IsSamePanel (t u : Tree) (p : ℕ) : Type 0 where
  pub margin : (s : Shape) → (slice_index_or t.panels p s).margin ≡ (slice_index_or u.panels p s).margin
  pub places : (s : Shape) → (slice_index_or t.panels p s).places ≡ (slice_index_or u.panels p s).places

-- the cartons hang alike, and so are their panels
pub record AreSame (t u : Tree) : Type 0 where
  pub root : t.root ≡ u.root
  pub joints : t.joints ≡ u.joints
  pub creases : t.creases ≡ u.creases
  pub count : length t.panels ≡ length u.panels
  pub panel : (p : ℕ) → p < length u.panels → IsSamePanel t u p
