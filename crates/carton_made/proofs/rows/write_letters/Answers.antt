use Rattle.std.proofs.Common.{string_bytes}
use Rattle.carton_made.proofs.Entries.{at_ok}
use Rattle.carton_made.proofs.RowLists.{letters_of}
use Rattle.carton_made.proofs.rows.write_letters.Goals as goal

pub returns : goal.returns
returns c = at_ok _ _ c.push_str-2.result
    (letters_of c.args.panels (string_bytes c.args.text.now) _ _ _ c.in_ok-push_str.ensures.bytes
    c.in_ok-write_more_letters.ensures) c.push_str-2.ensures.bytes
