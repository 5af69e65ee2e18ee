use Rattle.std.proofs.Common.{rules}
use Rattle.std.proofs.lemmas.Iterator.{YieldsList-from_slice}
use Rattle.std.proofs.lemmas.Iterator.Search.{any_from_yields_List}
use Rattle.carton_text.specs.Tasks.{has_to_move}
use Rattle.carton_text.proofs.teams.some_moves.Goals as goal

pub returns : goal.returns
returns c = any_from_yields_List (has_to_move c.args.courses.now) _ _ _ c.any.ensures.ran
    (YieldsList-from_slice c.args.edges.now (cc)) (λ x b q k. search rules)
