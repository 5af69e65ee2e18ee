use Rattle.std.proofs.Common.{string_bytes}
use Rattle.std.proofs.lemmas.Result.{on_ok_weaker}
use Rattle.carton_made.proofs.TrayLists.{vertices_of}
use Rattle.carton_made.proofs.trays.write_vertices.Goals as goal

pub returns : goal.returns
returns c = on_ok_weaker c.write-5.result
    (vertices_of c.args.size c.resized-side.result c.resized-far.result (string_bytes c.args.text.now) _ _ _ _
    _ c.resized-side.ensures c.resized-far.ensures c.in_ok-write.ensures.bytes
    c.in_ok-write-2.ensures.bytes c.in_ok-write-3.ensures.bytes c.in_ok-write-4.ensures.bytes)
    c.write-5.ensures.bytes
