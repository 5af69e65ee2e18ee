use Rattle.std.proofs.Common.{string_bytes, arith}
use Rattle.carton_made.specs.Drawings.{row_letter}
use Rattle.carton_made.proofs.Entries.{one_more}
use Rattle.carton_made.proofs.rows.write_more_letters.Goals as goal

pub loop-edge-preserved : goal.loop-edge-preserved
loop-edge-preserved c =
    let i = c.loop-edge.edge in
    one_more (λ letter. letter) (row_letter c.args.panels) 1 i
    (string_bytes c.args.text.now) _ _ _ (omega arith) c.loop-edge.invariant c.in_ok-write.ensures.bytes
    (c.letter-letter.ensures)
