use Rattle.std.proofs.Common.{SFits, inl, inr, IsTrue, ◌↔◌}
use Rattle.std.specs.Int.{w128}
use Rattle.std.proofs.lemmas.Int.{to_z-of_z}
use Rattle.carton_base.proofs.Loops.{at_no}
use Rattle.carton_reach.specs.Reaches.{IsApart}
use Rattle.carton_reach.proofs.nearness.is_apart.Goals as goal

pub returns-else-is_beyond : goal.returns-else-is_beyond
returns-else-is_beyond c =
    let r : SFits w128 c.args.room = c.ranges.room in
    let missed : ¬ (IsApart c.args.room c.args.p c.args.q) =
    simp to_z-of_z at (at_no c.if-is_beyond.false c.is_beyond.ensures) in
    let other : IsTrue c.is_beyond-else-is_beyond.result ↔ IsApart c.args.room c.args.q c.args.p =
    simp to_z-of_z at c.is_beyond-else-is_beyond.ensures in
    (λ t. inr (other.0 t), λ s. elim s [ inl a ↦ absurd (missed a) | inr b ↦ other.1 b ])
