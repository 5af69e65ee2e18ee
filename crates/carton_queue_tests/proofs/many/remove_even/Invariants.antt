use Rattle.std.proofs.Common.{◌≡◌}
use Rattle.carton_queue.specs.Waits.{nodes_of}
use Rattle.carton_queue_tests.specs.declared.many.TheConstants.{NODES}
use Rattle.carton_queue_tests.proofs.many.remove_even.Given as goal

abbrev pub invariant-loop-node : goal.invariant-loop-node
invariant-loop-node l = nodes_of l.queue ≡ NODES
