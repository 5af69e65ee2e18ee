use Rattle.std.proofs.Common.{◌≡◌, ◌+◌, arith}
use Rattle.carton_base.specs.declared.motion.State.{State}
use Rattle.carton_text.specs.PlanMoves.{IsMove}
use Rattle.carton_text.proofs.PlanMoves.{of_move}
use Rattle.carton_model.specs.Moves.{fold_at}
use Rattle.carton_guide.specs.Bands.{banded_folds}
use Rattle.carton_guide.proofs.Fitting.{read_at}
use Rattle.carton_guide.proofs.holding.window_move.Goals as goal

pub returns-clause-folds : goal.returns-clause-folds
returns-clause-folds c = λ s r m n d.
    let states = c.args.states.now in
    let i = c.args.step in
    let inside = c.requires.inside in
    let is : IsMove states i c.index-states-i.result c.index-states-i-2.result = record {
      from = read_at states i c.from-i.result c.index-states-i.result c.from-i.ensures (omega (arith, inside))
          c.index-states-i.is;
      to = read_at states (i + 1) (c.from-i.result + 1) c.index-states-i-2.result
          (omega (arith, c.from-i.ensures)) inside c.index-states-i-2.is;
    } in
    of_move (λ (x y : State). fold_at c.banded_move.result n d
    ≡ banded_folds c.args.end c.args.guide.now.band c.args.place x y n d) states i c.index-states-i.result
    c.index-states-i-2.result s r is m (c.banded_move.ensures.folds n d)
