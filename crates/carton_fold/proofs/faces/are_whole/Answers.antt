use Rattle.std.proofs.Common.{◌∙◌, sym, rules}
use Rattle.std.proofs.lemmas.Iterator.{YieldsList-from_slice}
use Rattle.std.proofs.lemmas.Iterator.Search.{all_from_yields_List}
use Rattle.std.proofs.lemmas.List.Folds.{list_all-map}
use Rattle.serde_json.specs.View.{view}
use Rattle.carton_fold.specs.Faces.{is_whole}
use Rattle.carton_fold.proofs.faces.are_whole.Goals as goal

pub returns : goal.returns
returns c =
    all_from_yields_List (λ v. is_whole (view v)) _ _ _ c.all.ensures.ran (YieldsList-from_slice
    c.args.parts.now (cc)) (λ x b q k. search rules) ∙ sym (list_all-map is_whole view c.args.parts.now)
