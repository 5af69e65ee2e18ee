use Rattle.std.proofs.Common.{sym, subst}
use Rattle.std.specs.Prelude.{All}
use Rattle.carton_model.specs.Turning.{IsTurn}
use Rattle.carton_reach.proofs.Routes.{turns_are}
use Rattle.carton_reach.proofs.reaching.reaches.Goals as goal

pub reaches_by-requires-clause-turns : goal.reaches_by-requires-clause-turns
reaches_by-requires-clause-turns g c =
    subst (All IsTurn) (sym c.in_ok-route.ensures.route.1)
    (turns_are c.args.carton.now c.args.panel.0 c.args.frame.0 c.panels-panels.ensures.carton c.requires.panel
    c.requires.frame)
