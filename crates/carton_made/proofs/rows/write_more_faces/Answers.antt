use Rattle.std.proofs.Common.{◌+◌, sym, string_bytes, arith}
use Rattle.std.specs.Fmt.{decimal}
use Rattle.carton_made.specs.Drawings.{row_face}
use Rattle.carton_made.specs.Made.{listed}
use Rattle.carton_made.proofs.Entries.{one_more, four_text}
use Rattle.carton_made.proofs.rows.write_more_faces.Goals as goal

pub loop-panel-preserved : goal.loop-panel-preserved
loop-panel-preserved c =
    let i = c.loop-panel.panel-counter in
    one_more (listed decimal) (row_face c.args.panels) 1 i
    (string_bytes c.args.text.now) _ _ _ (omega arith) c.loop-panel.invariant c.in_ok-write.ensures.bytes
    (sym (four_text i (i + 1) (c.args.panels + 2 + i) (c.args.panels + 1 + i)))
