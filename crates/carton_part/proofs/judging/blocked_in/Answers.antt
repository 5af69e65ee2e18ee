use Rattle.std.proofs.Common.{ℕ, pos, below_more}
use Rattle.carton_part.specs.Answers.{StayParted}
use Rattle.carton_part.specs.Parted.{AreStrangers}
use Rattle.carton_part.proofs.Closed.{parting_known}
use Rattle.carton_part.proofs.judging.blocked_in.Goals.{then-row-b+in_default, else-row-b}
use Rattle.carton_part.proofs.judging.blocked_in.Goals as goal

pub loop-b-preserved : goal.loop-b-preserved
loop-b-preserved g c =
    let Stays = λ (b : ℕ). AreStrangers c.args.carton.now c.args.a.0 b
    → StayParted c.args.carton.now c.args.motion.now c.args.a.0 b (pos 0) in
    elim c.if-row-b.branch [
      | then-row-b+in_default w ↦
          below_more Stays c.loop-b.b c.loop-b.invariant
          (λ _. parting_known c.args.carton.now c.args.motion.now c.args.a.0 c.loop-b.b (pos 0) c.args.slack
          w.part_open.result w.part_open.ensures w.in_default.not-Undecided)
      | else-row-b w ↦
          below_more Stays c.loop-b.b c.loop-b.invariant
          (λ s. c.requires.row.others c.loop-b.b s w.if-row-b.false)
    ]
