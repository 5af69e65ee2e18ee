-- How far positions may go in turns about lines of a dieline, in units of 2^-40.
use Rattle.std.specs.Prelude.{ℕ, ◌+◌, ◌*◌, ◌≤◌, ◌^◌}

-- the farthest place of a dieline
abbrev pub edge_of_sheet : ℕ
edge_of_sheet = 8191 * 2 ^ 40

-- what a size grows by apart from doubling, so that with it each turn doubles the size
abbrev pub overhang : ℕ
overhang = 2 * edge_of_sheet + 2

-- a position of this size stays below three times 2^61 in so many turns
abbrev pub HasRoomFor : ℕ → ℕ → Type 0
HasRoomFor turns size = 2 ^ turns * (size + overhang) ≤ 3 * 2 ^ 61
