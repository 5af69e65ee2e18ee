-- What a queue answers to calls, and what it is after them.
use Rattle.std.specs.Prelude.{◌≡◌, ℕ, ◌<◌, ◌≤◌, List, [], ◌∷◌, Some, None}
use Rattle.carton_queue.specs.Waits.{Waiting, nodes_of, priority_of, with_entry, IsLeast, IsEmpty}
use Rattle.carton_queue.specs.declared.calls.QueueCall.{QueueCall}
use Rattle.carton_queue.specs.declared.calls.QueueCall.TheVariants.{Put, Lower, TakeLeast, Remove}
use Rattle.carton_queue.specs.declared.calls.QueueAnswer.{QueueAnswer}
use Rattle.carton_queue.specs.declared.calls.QueueAnswer.TheVariants.{Done, Refused, Pair, Priority, Nothing}

-- the condition of put: node and priority are in range, and the node doesn't wait
pub record CanPut (q : Waiting) (node priority : ℕ) : Type 0 where
  pub node_in : node < nodes_of q
  pub priority_in : priority < q.buckets
  pub absent : priority_of q node ≡ None

-- the condition of lower: the node waits, and its priority isn't smaller than the new one
pub record CanLower (q : Waiting) (node priority : ℕ) : Type 0 where
  pub old : ℕ
  pub there : priority_of q node ≡ Some old
  pub less : priority ≤ old

-- the queue q may answer a to the call c, and is r after it
abbrev pub Answers : QueueCall → QueueAnswer → Waiting → Waiting → Type 0
Answers (Put n p) Done q r = CanPut q n p × (r ≡ with_entry q n (Some p))
Answers (Put n p) Refused q r = (CanPut q n p → ⊥) × (r ≡ q)
Answers (Lower n p) Done q r = CanLower q n p × (r ≡ with_entry q n (Some p))
Answers (Lower n p) Refused q r = (CanLower q n p → ⊥) × (r ≡ q)
Answers TakeLeast (Pair n p) q r = IsLeast q n p × (r ≡ with_entry q n None)
Answers TakeLeast Nothing q r = IsEmpty q × (r ≡ q)
Answers (Remove n) (Priority p) q r = (n < nodes_of q) × (priority_of q n ≡ Some p)
    × (r ≡ with_entry q n None)
Answers (Remove n) Nothing q r = (n < nodes_of q) × (priority_of q n ≡ None) × (r ≡ q)
Answers (Remove n) Refused q r = (nodes_of q ≤ n) × (r ≡ q)
Answers _ _ q r = ⊥

-- calls in order, with the answer to each, lead from the queue q to r
abbrev pub Runs : List QueueCall → List QueueAnswer → Waiting → Waiting → Type 0
Runs [] [] q r = r ≡ q
Runs (c ∷ cs) (a ∷ more) q r = (m : Waiting) × Answers c a q m × Runs cs more m r
Runs _ _ q r = ⊥
