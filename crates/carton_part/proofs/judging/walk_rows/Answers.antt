use Rattle.std.proofs.Common.{ℕ, pos, refl, below_more}
use Rattle.carton_part.specs.Answers.{StayParted}
use Rattle.carton_part.specs.Parted.{AreStrangers}
use Rattle.carton_part.proofs.judging.walk_rows.Goals as goal

pub loop-a-preserved : goal.loop-a-preserved
loop-a-preserved g c =
    let Stay = λ (a : ℕ). (b : ℕ) → AreStrangers c.args.carton.now a b
    → StayParted c.args.carton.now c.args.motion.now a b (pos 0) in
    let more = below_more Stay c.loop-a.a (λ a l b s. c.loop-a.invariant a b l s)
    (c.in_default.ensures.none refl) in
    λ a b l s. more a l b s
