-- The frames in which two panels of a carton are looked at: those of the panels on the way between them.
use Rattle.std.specs.Prelude.{ℕ, ◌≤◌, ◌⊎◌, length, Contains}
use Rattle.carton_base.specs.declared.limits.TheConstants.{LONGEST_PATH}
use Rattle.carton_tree.specs.Trees.{Tree, path, parting, turns_between}

-- panel f is on the path of panel p, or p itself
abbrev pub IsOnPath : Tree → ℕ → ℕ → Type 0
IsOnPath t p f = Contains (path t.joints p) (record { 0 = f })

-- panel f is on the way in the tree from a to b, both included: on the path of one of them, and not above
-- their parting panel
pub record IsOnWay (t : Tree) (a b f : ℕ) : Type 0 where
  pub above : IsOnPath t a f ⊎ IsOnPath t b f
  pub below : IsOnPath t f (parting t a b)

-- panel f is a frame of a and b: on the way between them, and neither is more than 8 joints away
pub record IsFrame (t : Tree) (a b f : ℕ) : Type 0 where
  pub way : IsOnWay t a b f
  pub near_a : length (turns_between t a f) ≤ LONGEST_PATH
  pub near_b : length (turns_between t b f) ≤ LONGEST_PATH
