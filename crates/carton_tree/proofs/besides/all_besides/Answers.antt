use Rattle.std.proofs.Common.{arith}
use Rattle.std.proofs.lemmas.List.{length_push}
use Rattle.carton_tree.proofs.Gathering.{one_edge_more}
use Rattle.carton_tree.proofs.besides.all_besides.Goals as goal

pub loop-k-preserved : goal.loop-k-preserved
loop-k-preserved c =
    let made = c.loop-k.all.items in
    let more = one_edge_more c.args.raw.now made c.found_beside.result c.loop-k.k c.loop-k.invariant.count
    (omega (arith, c.loop-k-test.true)) c.loop-k.invariant.made c.found_beside.ensures in
    rw c.in_ok-push.ensures.items
    (record {
      made = more;
      count = omega (arith, c.loop-k.invariant.count, length_push made c.found_beside.result);
    })
