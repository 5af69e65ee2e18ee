use Rattle.std.proofs.Common.{◌≡◌, ◌+◌, ◌<◌, ℕ, length}
use Rattle.carton_queue.specs.Linked.{next_of, previous_of}
use Rattle.carton_queue.proofs.links.heads_from.Given as goal

abbrev pub invariant-loop-i : goal.invariant-loop-i
invariant-loop-i l = record {
  long : length l.heads.items ≡ l.i;
  next : (k : ℕ) → k < length l.heads.items → next_of l.heads.items k ≡ l.start + k;
  previous : (k : ℕ) → k < length l.heads.items → previous_of l.heads.items k ≡ l.start + k;
}
