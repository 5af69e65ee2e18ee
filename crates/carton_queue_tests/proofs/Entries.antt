-- Which nodes wait after an entry is written.
use Rattle.std.proofs.Common.{◌≡◌, ℕ, ◌+◌, ◌<◌, ◌≤◌, Option, Some, None, inl, inr, ap, ◌∙◌, arith}
use Rattle.std.proofs.lemmas.Bool.{cases_eq}
use Rattle.carton_queue.specs.Waits.{Waiting, nodes_of, priority_of, with_entry}
use Rattle.carton_queue.proofs.CallerLemmas.{here, elsewhere, nodes-with_entry}
use Rattle.carton_queue_tests.specs.Waits.{AllWait}

-- all nodes below a number wait, and the one whose entry was written
pub one_more : (q r : Waiting) (n p : ℕ) → n < nodes_of q → r ≡ with_entry q n (Some p) → AllWait n q
    → AllWait (n + 1) r
one_more q r n p l e h m k = elim (cases_eq m n) [
  | inl same ↦ (p, ap (priority_of r) same ∙ ap (λ (s : Waiting). priority_of s n) e ∙ here q n (Some p) l)
  | inr o ↦
      (let w = h m (omega (arith, k, o)) in
      (w.0, ap (λ (s : Waiting). priority_of s m) e ∙ elsewhere q n (Some p) m o ∙ w.1))
]

-- the nodes from another on that don't wait
pub others_free : (q r : Waiting) (n p : ℕ) → r ≡ with_entry q n (Some p)
    → ((m : ℕ) → n ≤ m → priority_of q m ≡ None) → (m : ℕ) → n + 1 ≤ m → priority_of r m ≡ None
others_free q r n p e h m k = ap (λ (s : Waiting). priority_of s m) e
    ∙ elsewhere q n (Some p) m (λ same. omega (arith, k, same)) ∙ h m (omega (arith, k))

-- another priority of one node
pub all_stay : (q r : Waiting) (most n p : ℕ) → n < nodes_of q → r ≡ with_entry q n (Some p) → AllWait most q
    → AllWait most r
all_stay q r most n p l e h m k = elim (cases_eq m n) [
  | inl same ↦ (p, ap (priority_of r) same ∙ ap (λ (s : Waiting). priority_of s n) e ∙ here q n (Some p) l)
  | inr o ↦
      (let w = h m k in (w.0, ap (λ (s : Waiting). priority_of s m) e ∙ elsewhere q n (Some p) m o ∙ w.1))
]

-- the number of nodes
pub nodes_stay : (q r : Waiting) (n : ℕ) (x : Option ℕ) → r ≡ with_entry q n x → nodes_of r ≡ nodes_of q
nodes_stay q r n x e = ap (λ (s : Waiting). nodes_of s) e ∙ nodes-with_entry q n x
