use Rattle.std.proofs.Common.{◌≡◌, drop, length}
use Rattle.carton_base.specs.Steps.{entries_from}
use Rattle.carton_base.proofs.Entries.{with_front}
use Rattle.carton_text.specs.Tasks.{course_of}
use Rattle.carton_text.proofs.courses.courses.Given as goal

abbrev pub invariant-loop-edge : goal.invariant-loop-edge
invariant-loop-edge l = record {
  so_far : with_front l.found.items (entries_from (λ i. course_of l.job l.raw.angles) l.edge-index
      (drop l.edge-index l.creases)) ≡ entries_from (λ i. course_of l.job l.raw.angles) 0 l.creases;
  count : length l.found.items ≡ l.edge-index;
}
