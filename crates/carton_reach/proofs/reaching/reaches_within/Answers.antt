use Rattle.std.proofs.Common.{List, sym, subst}
use Rattle.std.specs.Prelude.{All}
use Rattle.carton_base.specs.declared.motion.Turn.{Turn}
use Rattle.carton_model.specs.Turning.{IsTurn}
use Rattle.carton_reach.specs.Reaches.{AreReaches}
use Rattle.carton_reach.specs.Spots.{corners_in, shape_at, spots_after}
use Rattle.carton_reach.proofs.Routes.{turns_are}
use Rattle.carton_reach.proofs.reaching.reaches_within.Goals as goal

pub reaches_between-requires-clause-turns : goal.reaches_between-requires-clause-turns
reaches_between-requires-clause-turns g c =
    subst (All IsTurn) (sym c.in_ok-route.ensures.route.1)
    (turns_are c.args.carton.now c.args.panel.0 c.args.frame.0 c.panels-panels.ensures.carton c.requires.panel
    c.requires.frame)

pub returns-clause-reaches : goal.returns-clause-reaches
returns-clause-reaches g c = λ motion between.
    subst (λ (turns : List Turn).
    AreReaches (spots_after motion turns (shape_at c.args.carton.now c.args.panel.0).shrunk) 0
    (corners_in c.args.carton.now c.args.panel.0) 0 0 c.reaches_between.result.axes)
    c.in_ok-route.ensures.route.1 (c.reaches_between.ensures motion between)
