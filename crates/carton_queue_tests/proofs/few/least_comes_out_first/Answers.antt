use Rattle.std.proofs.Common.{◌<◌, Some, ap, ◌∙◌, arith}
use Rattle.carton_queue.specs.Waits.{Waiting, nodes_of, priority_of}
use Rattle.carton_queue.proofs.CallerLemmas.{here, elsewhere}
use Rattle.carton_queue_tests.proofs.Entries.{nodes_stay}
use Rattle.carton_queue_tests.proofs.few.least_comes_out_first.Goals as goal

pub put-requires-2-clause-absent : goal.put-requires-2-clause-absent
put-requires-2-clause-absent g c =
    ap (λ (q : Waiting). priority_of q 1) c.put.ensures
    ∙ elsewhere c.in-Ok.queue 0 (Some 5) 1 (λ e. omega (arith, e)) ∙ c.in-Ok.ensures.empty 1

pub put-requires-3-clause-absent : goal.put-requires-3-clause-absent
put-requires-3-clause-absent g c =
    ap (λ (q : Waiting). priority_of q 2) c.put-2.ensures
    ∙ elsewhere c.put.new.self 1 (Some 3) 2 (λ e. omega (arith, e))
    ∙ ap (λ (q : Waiting). priority_of q 2) c.put.ensures
    ∙ elsewhere c.in-Ok.queue 0 (Some 5) 2 (λ e. omega (arith, e)) ∙ c.in-Ok.ensures.empty 2

pub lower-requires : goal.lower-requires
lower-requires g c =
    let a = nodes_stay c.put.new.self c.put-2.new.self 1 (Some 3) c.put-2.ensures in
    let b = nodes_stay c.in-Ok.queue c.put.new.self 0 (Some 5) c.put.ensures in
    let l : 2 < nodes_of c.put-2.new.self = omega (arith, a, b, c.in-Ok.ensures.nodes) in (
      5,
      ap (λ (q : Waiting). priority_of q 2) c.put-3.ensures
          ∙ here c.put-2.new.self 2 (Some 5) l,
      omega arith,
    )
