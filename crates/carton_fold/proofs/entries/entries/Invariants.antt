use Rattle.std.proofs.Common.{◌≡◌, ◌≤◌, drop, map, length}
use Rattle.serde_json.specs.View.{view}
use Rattle.carton_base.specs.Steps.{entries_from}
use Rattle.carton_base.proofs.Entries.{with_front}
use Rattle.carton_fold.specs.Entries.{ReadsBy}
use Rattle.carton_fold.proofs.entries.entries.Given as goal

abbrev pub invariant-loop-i : goal.invariant-loop-i
invariant-loop-i g l = record {
  so_far : (entry : _) → ReadsBy g.F.Fn l.read (length l.list) entry
      → with_front l.found.items (entries_from entry l.i (map view (drop l.i l.list)))
      ≡ entries_from entry 0 (map view l.list);
  count : length l.found.items ≡ l.i;
  within : l.i ≤ length l.list;
}
