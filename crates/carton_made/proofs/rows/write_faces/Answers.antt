use Rattle.std.proofs.Common.{string_bytes}
use Rattle.carton_made.proofs.Entries.{at_ok}
use Rattle.carton_made.proofs.RowLists.{faces_of}
use Rattle.carton_made.proofs.rows.write_faces.Goals as goal

pub returns : goal.returns
returns c = at_ok _ _ c.push_str.result
    (faces_of c.args.panels (string_bytes c.args.text.now) _ _ _ c.requires.some c.in_ok-write.ensures.bytes
    c.in_ok-write_more_faces.ensures) c.push_str.ensures.bytes
