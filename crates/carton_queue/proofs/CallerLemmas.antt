-- What a caller needs of the queue's value after a call.
use Rattle.std.proofs.Common.{◌≡◌, ℕ, ◌<◌, Option, Some}
use Rattle.std.proofs.Math.ListN.{length-set}
use Rattle.carton_queue.specs.Waits.{Waiting, nodes_of, priority_of, with_entry}
use Rattle.carton_queue.proofs.Places.{at_set, at_others, at_within}

-- the entry that was written
pub here : (q : Waiting) (n : ℕ) (x : Option ℕ) → n < nodes_of q → priority_of (with_entry q n x) n ≡ x
here q n x l = at_set q.priorities n x l

-- all other entries stay
pub elsewhere : (q : Waiting) (n : ℕ) (x : Option ℕ) (m : ℕ) → (m ≡ n → ⊥) → priority_of (with_entry q n x) m
    ≡ priority_of q m
elsewhere q n x m o = at_others q.priorities n x m o

-- a node that waits is in range
pub within : (q : Waiting) (n p : ℕ) → priority_of q n ≡ Some p → n < nodes_of q
within q n p h = at_within q.priorities n p h

-- the number of nodes stays
pub nodes-with_entry : (q : Waiting) (n : ℕ) (x : Option ℕ) → nodes_of (with_entry q n x) ≡ nodes_of q
nodes-with_entry q n x = length-set q.priorities n x
