use Rattle.std.proofs.Common.{◌+◌, sym, string_bytes, arith}
use Rattle.std.specs.Fmt.{decimal}
use Rattle.carton_made.specs.Drawings.{across}
use Rattle.carton_made.specs.Made.{listed}
use Rattle.carton_made.proofs.Entries.{one_more, two_text}
use Rattle.carton_made.proofs.rows.write_across.Goals as goal

pub loop-vertex-preserved : goal.loop-vertex-preserved
loop-vertex-preserved c =
    let i = c.loop-vertex.vertex-counter in
    one_more (listed decimal) (across c.args.panels) 0 i
    (string_bytes c.args.text.now) _ _ _ (omega arith) c.loop-vertex.invariant c.in_ok-write.ensures.bytes
    (sym (two_text i (c.args.panels + 1 + i)))
