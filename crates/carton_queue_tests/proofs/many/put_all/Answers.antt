use Rattle.std.proofs.Common.{◌<◌, ◌%◌, ◌∙◌, ap, arith}
use Rattle.carton_queue.specs.Waits.{Waiting, nodes_of}
use Rattle.carton_queue_tests.specs.declared.many.TheConstants.{BUCKETS}
use Rattle.carton_queue_tests.proofs.Entries.{nodes_stay, one_more, others_free}
use Rattle.carton_queue_tests.proofs.many.put_all.Goals as goal

pub loop-node-preserved : goal.loop-node-preserved
loop-node-preserved c =
    let q = c.loop-node.queue in
    let r = c.put.new.self in
    let n = c.loop-node.node in
    let l : n < nodes_of q = omega (arith, c.loop-node.invariant.nodes, c.loop-node-test.true) in
    record {
      nodes = nodes_stay q r n _ c.put.ensures ∙ c.loop-node.invariant.nodes;
      buckets = ap (λ (s : Waiting). s.buckets) c.put.ensures ∙ c.loop-node.invariant.buckets;
      waiting = one_more q r n (n % BUCKETS) l c.put.ensures c.loop-node.invariant.waiting;
      free = others_free q r n (n % BUCKETS) c.put.ensures c.loop-node.invariant.free;
    }
