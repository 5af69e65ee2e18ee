use Rattle.std.proofs.Common.{◌∙◌, ◌++◌, sym, ap, List, ℕ, string_bytes}
use Rattle.carton_made.proofs.Entries.{at_ok}
use Rattle.carton_made.proofs.TrayLists.{faces_text}
use Rattle.carton_made.proofs.trays.write_faces.Goals as goal

pub returns : goal.returns
returns c =
    at_ok _ _ c.push_str.result
    (λ e. e ∙ ap (λ (bs : List ℕ). string_bytes c.args.text.now ++ bs) (sym faces_text))
    c.push_str.ensures.bytes
