use Rattle.std.proofs.Common.{◌≡◌, ℕ, ◌<◌, ◌≤◌, length, get_or}
use Rattle.carton_base.specs.declared.limits.TheConstants.{MOST_PANELS}
use Rattle.carton_tree.proofs.Merging.{moved}
use Rattle.carton_tree.proofs.groups.merged.Given as goal

abbrev pub invariant-loop-p : goal.invariant-loop-p
invariant-loop-p l = record {
  len : length l.all ≡ MOST_PANELS;
  done : (q : ℕ) → q < l.p → get_or l.all q 0 ≡ moved l.from l.to (get_or l.fn.groups q 0);
  left : (q : ℕ) → l.p ≤ q → get_or l.all q 0 ≡ get_or l.fn.groups q 0;
}
