use Rattle.std.proofs.Common.{string_bytes, arith}
use Rattle.carton_made.specs.Made.{member}
use Rattle.carton_made.proofs.Entries.{one_crease}
use Rattle.carton_made.proofs.jobs.write_team.Goals as goal

pub loop-edge-preserved : goal.loop-edge-preserved
loop-edge-preserved c =
    let i = c.loop-edge.edge-counter in
    record {
      from = omega (arith, c.loop-edge.invariant.from);
      wrote = one_crease member c.args.first i (string_bytes c.args.text.now) (string_bytes c.loop-edge.text)
          _ c.loop-edge.invariant.from c.loop-edge.invariant.wrote c.in_ok-write.ensures.bytes;
    }
