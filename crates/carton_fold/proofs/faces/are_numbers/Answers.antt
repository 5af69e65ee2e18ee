use Rattle.std.proofs.Common.{◌∙◌, sym, rules}
use Rattle.std.proofs.lemmas.Iterator.{YieldsList-from_slice}
use Rattle.std.proofs.lemmas.Iterator.Search.{all_from_yields_List}
use Rattle.std.proofs.lemmas.List.Folds.{list_all-map}
use Rattle.serde_json.specs.View.{view}
use Rattle.carton_fold.specs.Values.{is_number}
use Rattle.carton_fold.proofs.faces.are_numbers.Goals as goal

pub returns : goal.returns
returns c =
    all_from_yields_List (λ v. is_number (view v)) _ _ _ c.all.ensures.ran (YieldsList-from_slice
    c.args.parts.now (cc)) (λ x b q k. search rules) ∙ sym (list_all-map is_number view c.args.parts.now)
