use Rattle.std.proofs.Common.{◌*◌, sym, string_bytes, arith}
use Rattle.std.specs.Fmt.{signed_decimal}
use Rattle.carton_made.specs.Drawings.{side_vertex}
use Rattle.carton_made.specs.Made.{listed}
use Rattle.carton_made.proofs.Entries.{one_more, vertex_text}
use Rattle.carton_made.proofs.rows.write_side.Goals as goal

pub loop-vertex-preserved : goal.loop-vertex-preserved
loop-vertex-preserved c =
    let i = c.loop-vertex.vertex in
    one_more (listed signed_decimal) (side_vertex c.args.size c.args.height) c.args.first i
    (string_bytes c.args.text.now) _ _ _ (omega arith) c.loop-vertex.invariant c.in_ok-write.ensures.bytes
    (sym (vertex_text (i * c.args.size) c.args.height))
