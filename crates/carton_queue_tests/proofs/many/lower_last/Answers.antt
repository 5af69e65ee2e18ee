use Rattle.std.proofs.Common.{◌≡◌, ◌<◌, ◌∙◌, subst, sym, arith}
use Rattle.carton_queue.specs.Waits.{Waiting, nodes_of}
use Rattle.carton_queue_tests.specs.Waits.{AllWait}
use Rattle.carton_queue_tests.specs.declared.many.TheConstants.{NODES}
use Rattle.carton_queue_tests.proofs.Entries.{nodes_stay, all_stay}
use Rattle.carton_queue_tests.proofs.many.lower_last.Goals.{then-node, else-node}
use Rattle.carton_queue_tests.proofs.many.lower_last.Goals as goal

pub lower-requires : goal.lower-requires
lower-requires c =
    let w = c.loop-node.invariant.waiting c.loop-node.node c.loop-node-test.true in
    (w.0, w.1, omega arith)

pub loop-node-preserved : goal.loop-node-preserved
loop-node-preserved c =
    let q = c.loop-node.queue in
    let n = c.loop-node.node in
    let l : n < nodes_of q = omega (arith, c.loop-node.invariant.nodes, c.loop-node-test.true) in
    elim c.if-node.branch [
      | then-node w ↦ (
          let e = w.queue-is ∙ w.lower.ensures in
          record {
            nodes = nodes_stay q c.if-node.queue n _ e ∙ c.loop-node.invariant.nodes;
            waiting = all_stay q c.if-node.queue NODES n 0 l e c.loop-node.invariant.waiting;
          })
      | else-node w ↦
          (subst (λ (s : Waiting). record { nodes : nodes_of s ≡ NODES; waiting : AllWait NODES s })
          (sym w.queue-is) c.loop-node.invariant)
    ]
