use Rattle.std.proofs.Common.{◌≡◌, ℕ, ◌≤◌, None}
use Rattle.carton_queue.specs.Waits.{nodes_of, priority_of}
use Rattle.carton_queue_tests.specs.Waits.{AllWait}
use Rattle.carton_queue_tests.specs.declared.many.TheConstants.{NODES, BUCKETS}
use Rattle.carton_queue_tests.proofs.many.put_all.Given as goal

abbrev pub invariant-loop-node : goal.invariant-loop-node
invariant-loop-node l = record {
  nodes : nodes_of l.queue ≡ NODES;
  buckets : l.queue.buckets ≡ BUCKETS;
  waiting : AllWait l.node l.queue;
  free : (n : ℕ) → l.node ≤ n → priority_of l.queue n ≡ None;
}
