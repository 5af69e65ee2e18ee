use Rattle.std.proofs.Common.{◌≡◌}
use Rattle.carton_queue.specs.Waits.{nodes_of}
use Rattle.carton_queue_tests.specs.Waits.{AllWait}
use Rattle.carton_queue_tests.specs.declared.many.TheConstants.{NODES}
use Rattle.carton_queue_tests.proofs.many.lower_last.Given as goal

abbrev pub invariant-loop-node : goal.invariant-loop-node
invariant-loop-node l = record { nodes : nodes_of l.queue ≡ NODES; waiting : AllWait NODES l.queue }
