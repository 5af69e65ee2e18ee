use Rattle.std.proofs.Common.{◌&&◌, rules}
use Rattle.std.proofs.lemmas.Iterator.{YieldsList-from_slice}
use Rattle.std.proofs.lemmas.Iterator.Search.{any_from_yields_List}
use Rattle.carton_text.specs.Jobs.{is_same}
use Rattle.carton_text.specs.Tasks.{moves}
use Rattle.carton_text.proofs.teams.has_to_move.Goals as goal

pub returns : goal.returns
returns c = any_from_yields_List (λ k. is_same k.edge c.args.edge && moves k) _ _ _ c.any.ensures.ran
    (YieldsList-from_slice c.args.courses.now (cc)) (λ x b q k. search rules)
