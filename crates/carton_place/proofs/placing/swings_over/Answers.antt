use Rattle.std.proofs.Common.{arith, ◌<◌, length, get_or, ◌∙◌, subst}
use Rattle.std.proofs.lemmas.List.{length-set, get_or_default}
use Rattle.carton_base.specs.declared.motion.Turn.{Turn}
use Rattle.carton_place.specs.declared.swings.Swing.{Swing}
use Rattle.carton_place.specs.Swings.{IsSwingOver}
use Rattle.carton_place.proofs.Lists.{one_more_set}
use Rattle.carton_place.proofs.placing.swings_over.Goals as goal

pub loop-i-preserved : goal.loop-i-preserved
loop-i-preserved c =
    let i = c.loop-i.i in
    let turns = c.args.turns.now in
    let l : i < length c.loop-i.swings =
    omega (arith, c.loop-i.invariant.0, c.loop-i-test.true, c.requires.count) in
    let here : (t : Turn)
    → IsSwingOver c.args.motion.now (get_or turns i t).place c.args.piece.index c.args.piece.depth
    c.swing_over.result =
    λ t. subst (λ u. IsSwingOver c.args.motion.now u.place c.args.piece.index c.args.piece.depth
    c.swing_over.result) (c.index-turns-i.is
    ∙ get_or_default turns i c.index-turns-i.result t c.loop-i-test.true) c.swing_over.ensures in (
      length-set c.loop-i.swings i c.swing_over.result ∙ c.loop-i.invariant.0,
      one_more_set (λ k (s : Swing). (t : Turn)
          → IsSwingOver c.args.motion.now (get_or turns k t).place c.args.piece.index c.args.piece.depth s)
          c.loop-i.swings i c.swing_over.result l here c.loop-i.invariant.1,
    )

pub returns-clause-swings : goal.returns-clause-swings
returns-clause-swings c = λ k s t l. c.loop-i.invariant.1 k s (omega (arith, l, c.loop-i-test.false)) t
