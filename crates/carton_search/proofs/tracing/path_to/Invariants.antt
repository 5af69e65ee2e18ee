use Rattle.std.proofs.Common.{◌≡◌, ℕ, Some, slice_get}
use Rattle.carton_base.specs.declared.motion.State.{State}
use Rattle.carton_search.specs.declared.known.Entry.{Entry}
use Rattle.carton_search.specs.Known.{IsTree, IsParent}
use Rattle.carton_search.proofs.Born.{Behind}
use Rattle.carton_search.proofs.tracing.path_to.Given as goal

abbrev pub invariant-loop-entry : goal.invariant-loop-entry
invariant-loop-entry l = record {
  there : (i : ℕ) × (slice_get l.known.entries i ≡ Some l.entry);
  behind : (s : State) (end : Entry) → IsTree (IsParent l.known.entries) s l.known.entries
      → slice_get l.known.entries l.fn.number ≡ Some end → Behind l.known.entries end l.entry l.path.items;
}

abbrev pub decreases-loop-entry : goal.decreases-loop-entry
decreases-loop-entry l = l.entry.moves
