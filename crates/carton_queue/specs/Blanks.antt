-- Lists of a fixed length whose last entries are blank and aren't written.
use Rattle.std.specs.Prelude.{ℕ, ◌-◌, ◌≤◌, List, ◌++◌, length, replicate}

-- the entries that are written, and blank ones up to a length
abbrev pub filled : {A : Type 0} → ℕ → A → List A → List A
filled room blank xs = xs ++ replicate (room - length xs) blank

-- no more entries are written than there are, and there is space for the rest
pub record HasSpace (room written space : ℕ) : Type 0 where
  pub few : written ≤ room
  pub enough : room ≤ space
