-- Walks over the pieces of a move.
use Rattle.std.specs.Prelude.{◌≡◌, ℕ, ◌+◌, ◌*◌, ◌≤◌, ◌^◌, ◌↔◌}

-- the second piece starts where the first ends, and is no shorter
pub record Follows (index depth next_index next_depth : ℕ) : Type 0 where
  pub shallower : next_depth ≤ depth
  pub starts : next_index * 2 ^ depth ≡ (index + 1) * 2 ^ next_depth

-- P and Q hold at the same moments
abbrev pub AreSameMoments : (ℕ → ℕ → Type 0) → (ℕ → ℕ → Type 0) → Type 0
AreSameMoments P Q = (n d : ℕ) → P n d ↔ Q n d
