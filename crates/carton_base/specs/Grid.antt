-- The grids of stops.
use Rattle.std.specs.Prelude.{ℕ, nat_eq, ◌||◌, Bool, IsTrue}

-- the numbers of stops that a right angle may have
abbrev pub is_grid : ℕ → Bool
is_grid g = nat_eq g 8 || nat_eq g 16

abbrev pub IsGrid : ℕ → Type 0
IsGrid g = IsTrue (is_grid g)
