use Rattle.std.proofs.Common.{◌∙◌, ap}
use Rattle.carton_base.specs.declared.motion.Turn.{Turn}
use Rattle.carton_model.specs.Turning.{turned_back}
use Rattle.carton_tree.proofs.Returning.{way_down}
use Rattle.carton_tree.proofs.route.turn_at.Goals as goal

pub returns-else-i-up : goal.returns-else-i-up
returns-else-i-up c = λ t. c.turned_back.ensures ∙ ap (λ (x : Turn). turned_back x) c.index-down-up.is
    ∙ way_down c.args.up.now c.args.down.now c.args.i t c.index-down-up.result c.if-i-up.false c.requires.i
