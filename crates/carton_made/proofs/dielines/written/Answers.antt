use Rattle.carton_made.proofs.Whole.{text_is}
use Rattle.carton_made.proofs.dielines.written.Goals as goal

pub returns : goal.returns
returns c = text_is c.args.kind c.args.size _ _ _ _ _ _ _ _ _ c.in_ok-text.ensures.ok
    c.in_ok-write_vertices.ensures c.in_ok-push_str.ensures.bytes
    c.in_ok-write_edges.ensures c.in_ok-push_str-2.ensures.bytes c.in_ok-write_letters.ensures
    c.in_ok-push_str-3.ensures.bytes c.in_ok-write_faces.ensures c.in_ok-push_str-4.ensures.bytes
