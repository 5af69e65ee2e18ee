-- What the lines of a text mean.
use Rattle.std.specs.Prelude.{ℕ, List, Bool, Result}
use Rattle.carton_lines.specs.declared.fault.Fault.{Fault}

-- the first line; a line after it, with its number and after what the earlier ones told; and whether a text
-- that told this much may end
pub record Grammar (D : Type 0) : Type 0 where
  pub begin : List ℕ → Result D Fault
  pub take : D → ℕ → List ℕ → Result D Fault
  pub may_end : D → Bool
