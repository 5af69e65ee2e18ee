use Rattle.std.proofs.Common.{sym, ◌∙◌, below_more}
use Rattle.carton_base.proofs.Loops.{at_no}
use Rattle.carton_tree.specs.Rules.{IsSlantedJoint}
use Rattle.carton_tree.proofs.Ways.{no_pair}
use Rattle.carton_tree.proofs.rules.first_slanted.Goals as goal
use Rattle.carton_tree.proofs.rules.first_slanted.Goals.{else-is_some-via-then-is_some+else-is_slanted}
use Rattle.carton_tree.proofs.rules.first_slanted.Goals.{else-is_some-via-else-is_some}

pub loop-k-preserved : goal.loop-k-preserved
loop-k-preserved c =
    let d = c.args.raw.now in
    let k = c.loop-k.k in
    below_more (λ j. ¬ (IsSlantedJoint d j)) k c.loop-k.invariant (elim c.else-is_some.branch [
      | else-is_some-via-then-is_some+else-is_slanted w ↦
          λ s. at_no w.if-is_slanted.false w.is_slanted.ensures s.1
      | else-is_some-via-else-is_some w ↦
          λ s. no_pair d k c.joined_at.result c.joined_at.ensures (sym c.is_some.ensures ∙ w.if-is_some.false)
          s.0
    ])
