use Rattle.std.proofs.Common.{◌≡◌, ◌+◌, ◌-◌, length}
use Rattle.std.specs.Vec.{vec_capacity}
use Rattle.carton_queue.specs.Blanks.{filled, HasSpace}
use Rattle.carton_queue.proofs.entries.write_up_to.Given as goal

abbrev pub invariant-loop-blank : goal.invariant-loop-blank
invariant-loop-blank g l = record {
  space : HasSpace l.room (length l.written.items) (vec_capacity l.written);
  same : filled l.room l.blank l.written.items ≡ filled l.room l.blank l.initial.written.items;
}

abbrev pub decreases-loop-blank : goal.decreases-loop-blank
decreases-loop-blank g l = l.at + 1 - length l.written.items
