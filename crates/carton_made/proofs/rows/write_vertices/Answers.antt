use Rattle.std.proofs.Common.{string_bytes}
use Rattle.carton_made.proofs.Entries.{at_ok}
use Rattle.carton_made.proofs.RowLists.{vertices_of}
use Rattle.carton_made.proofs.rows.write_vertices.Goals as goal

pub returns : goal.returns
returns c = at_ok _ _ c.push_str-2.result
    (vertices_of c.args.panels c.args.size (string_bytes c.args.text.now) _ _ _ _
    c.in_ok-push_str.ensures.bytes c.in_ok-write_side.ensures c.in_ok-write_side-2.ensures)
    c.push_str-2.ensures.bytes
