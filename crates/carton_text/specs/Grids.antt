-- The grids of a job.
use Rattle.std.specs.Prelude.{ℕ}
use Rattle.carton_text.specs.declared.grid.Grid.{Grid}
use Rattle.carton_text.specs.declared.grid.Grid.TheVariants.{Eight, Sixteen}

-- how many stops a right angle has
abbrev pub stops_of : Grid → ℕ
stops_of Eight = 8
stops_of Sixteen = 16
