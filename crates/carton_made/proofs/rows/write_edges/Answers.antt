use Rattle.std.proofs.Common.{string_bytes}
use Rattle.carton_made.proofs.Entries.{at_ok}
use Rattle.carton_made.proofs.RowLists.{edges_of}
use Rattle.carton_made.proofs.rows.write_edges.Goals as goal

pub returns : goal.returns
returns c = at_ok _ _ c.push_str-2.result
    (edges_of c.args.panels (string_bytes c.args.text.now) _ _ _ _ _ c.requires.some
    c.in_ok-push_str.ensures.bytes c.in_ok-write_along.ensures c.in_ok-write_along-2.ensures
    c.in_ok-write_across.ensures) c.push_str-2.ensures.bytes
