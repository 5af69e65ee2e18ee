-- What callers see of a queue: which nodes wait with which priority, and the two numbers that it was made
-- with.
use Rattle.std.specs.Prelude.{◌≡◌, ℕ, zero, suc, ◌≤◌, List, [], ◌∷◌, Option, Some, None, length, slice_set}

-- for each node its priority, or None where it doesn't wait, and the number that each priority is below
pub record Waiting : Type 0 where
  pub priorities : List (Option ℕ)
  pub buckets : ℕ

-- the number that each node is below
abbrev pub nodes_of : Waiting → ℕ
nodes_of q = length q.priorities

-- the entry of a node in a list of priorities, and None past its end
abbrev pub priority_at : List (Option ℕ) → ℕ → Option ℕ
priority_at [] n = None
priority_at (x ∷ xs) zero = x
priority_at (x ∷ xs) (suc n) = priority_at xs n

-- the priority of a node, or None where it doesn't wait
abbrev pub priority_of : Waiting → ℕ → Option ℕ
priority_of q n = priority_at q.priorities n

-- the queue with another entry for one node: its priority, or None where it waits no more
abbrev pub with_entry : Waiting → ℕ → Option ℕ → Waiting
with_entry q n x = record { priorities = slice_set q.priorities n x; buckets = q.buckets }

-- the node waits with this priority, and no node waits with a smaller one
abbrev pub IsLeast : Waiting → ℕ → ℕ → Type 0
IsLeast q n p = (priority_of q n ≡ Some p) × ((m r : ℕ) → priority_of q m ≡ Some r → p ≤ r)

-- no node waits
abbrev pub IsEmpty : Waiting → Type 0
IsEmpty q = (n : ℕ) → priority_of q n ≡ None
