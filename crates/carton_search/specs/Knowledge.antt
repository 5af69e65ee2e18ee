-- What contracts see of the states that a search has found.
use Rattle.std.specs.Prelude.{◌≡◌, ℕ, Bool, true, false, List, [], ◌∷◌, Option, Some, None, nat_lt}
use Rattle.std.specs.Prelude.{if◌then◌else◌}
use Rattle.carton_base.specs.declared.motion.State.{State}
use Rattle.carton_queue.specs.Waits.{Waiting, nodes_of, with_entry, IsEmpty}
use Rattle.carton_search.specs.declared.known.Entry.{Entry}
use Rattle.carton_search.specs.declared.known.Node.{Node}

-- a state and what is kept beside it
abbrev pub entry_of : State → Node → Entry
entry_of s n = record { state = s; parent = n.parent; moves = n.moves; tried = n.tried }

-- the states and what is kept beside each
abbrev pub entries_of : List State → List Node → List Entry
entries_of [] nodes = []
entries_of (s ∷ states) [] = []
entries_of (s ∷ states) (n ∷ nodes) = entry_of s n ∷ entries_of states nodes

-- the found states in the order of their numbers, those that wait by their priorities, and whether one was
-- dropped
pub record Knowledge : Type 0 where
  pub entries : List Entry
  pub waiting : Waiting
  pub dropped : Bool

-- nothing is known, and so many states may be found
pub record IsBlank (k : Knowledge) (states : ℕ) : Type 0 where
  pub entries : k.entries ≡ []
  pub empty : IsEmpty k.waiting
  pub nodes : nodes_of k.waiting ≡ states
  pub buckets : k.waiting.buckets ≡ 4096
  pub dropped : k.dropped ≡ false

-- the priority, if it isn't too great
abbrev pub queued_at : ℕ → Option ℕ
queued_at p = if nat_lt p 4096 then Some p else None

-- the state of that number waits with that priority, or is dropped where the priority is too great
abbrev pub with_priority : Knowledge → ℕ → ℕ → Knowledge
with_priority k number p = if nat_lt p 4096 then record k { waiting = with_entry k.waiting number (Some p) }
    else record k { dropped = true }
