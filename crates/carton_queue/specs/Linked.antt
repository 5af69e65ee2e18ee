-- How nodes are linked. The first slots are the nodes; after them each bucket has one slot, which is always
-- in its ring.
use Rattle.std.specs.Prelude.{◌≡◌, ℕ, zero, suc, ◌+◌, ◌<◌, ◌≤◌, ◌^◌, List, [], ◌∷◌, Option, Some, None}
use Rattle.std.specs.Prelude.{length, ◌⊎◌}
use Rattle.carton_queue.specs.Waits.{priority_at}
use Rattle.carton_queue.specs.declared.links.Link.{Link}

-- a part of the link of slot i
abbrev pub part_of : (Link → ℕ) → List Link → ℕ → ℕ
part_of part [] i = 0
part_of part (x ∷ xs) zero = part x
part_of part (x ∷ xs) (suc i) = part_of part xs i

-- the slot after slot i in its ring
abbrev pub next_of : List Link → ℕ → ℕ
next_of = part_of (λ x. x.next)

-- the slot before slot i in its ring
abbrev pub previous_of : List Link → ℕ → ℕ
previous_of = part_of (λ x. x.previous)

-- the value at one place is set, and all others stay
pub record IsSet (old new : ℕ → ℕ) (at to : ℕ) : Type 0 where
  pub here : new at ≡ to
  pub rest : (i : ℕ) → (i ≡ at → ⊥) → new i ≡ old i

-- the values at two places are set, and all others stay
pub record AreSet (old new : ℕ → ℕ) (at to at2 to2 : ℕ) : Type 0 where
  pub here : new at ≡ to
  pub there : new at2 ≡ to2
  pub rest : (i : ℕ) → (i ≡ at → ⊥) → (i ≡ at2 → ⊥) → new i ≡ old i

-- slot i is in the ring of bucket b: a node with that priority, or the bucket's own slot
abbrev pub InRing : ℕ → (ℕ → Option ℕ) → ℕ → ℕ → Type 0
InRing nodes at b i = (at i ≡ Some b) ⊎ (i ≡ nodes + b)

-- a step by go stays in its ring, and a step by come leads back
pub record IsWay (nodes buckets : ℕ) (at : ℕ → Option ℕ) (go come : ℕ → ℕ) : Type 0 where
  pub goes : (b i : ℕ) → b < buckets → InRing nodes at b i → InRing nodes at b (go i)
  pub back : (b i : ℕ) → b < buckets → InRing nodes at b i → come (go i) ≡ i

-- next and previous lead around the rings, opposite ways, and ranks that fall from node to node show that
-- each ring
-- comes back to its bucket's slot
pub record IsRing (nodes buckets : ℕ) (at : ℕ → Option ℕ) (next previous : ℕ → ℕ) : Type 0 where
  pub within : (n p : ℕ) → at n ≡ Some p → n < nodes
  pub below : (n p : ℕ) → at n ≡ Some p → p < buckets
  pub forth : IsWay nodes buckets at next previous
  pub back : IsWay nodes buckets at previous next
  pub rank : ℕ → ℕ
  pub falls : (n p : ℕ) → at n ≡ Some p → at (next n) ≡ Some p → rank (next n) < rank n

-- each slot has a link, and the links are those of the nodes' rings
pub record IsLinked (xs : List (Option ℕ)) (links : List Link) (buckets : ℕ) : Type 0 where
  pub long : length links ≡ length xs + buckets
  pub ring : IsRing (length xs) buckets (priority_at xs) (next_of links) (previous_of links)

-- a node with least priority and that priority, or None where no node waits
abbrev pub IsFirst : List (Option ℕ) → Option (ℕ × ℕ) → Type 0
IsFirst xs None = (n : ℕ) → priority_at xs n ≡ None
IsFirst xs (Some r) = (priority_at xs r.0 ≡ Some r.1) × ((n p : ℕ) → priority_at xs n ≡ Some p → r.1 ≤ p)

-- what is true of each queue: no priority is smaller than least, where the search begins
pub record IsKept (xs : List (Option ℕ)) (links : List Link) (buckets least : ℕ) : Type 0 where
  pub linked : IsLinked xs links buckets
  pub short : length xs < 2 ^ 32
  pub below : (n p : ℕ) → priority_at xs n ≡ Some p → least ≤ p
