use Rattle.std.proofs.Common.{ap, sym, ◌∙◌, Some, option_map, List, map}
use Rattle.serde_json.specs.Data.{Data}
use Rattle.serde_json.specs.View.{view}
use Rattle.carton_fold.specs.Values.{elements}
use Rattle.carton_fold.proofs.Lists.{elements-items_of}
use Rattle.carton_fold.proofs.values.list_of.Goals as goal

pub returns-in-Some : goal.returns-in-Some
returns-in-Some c =
    ap (λ (ds : List Data). Some ds) (ap (map view) c.as_slice.ensures.value
    ∙ sym (elements-items_of (map view c.in-Some.list.now.items)))
    ∙ ap (option_map elements) c.in-Some.ensures
