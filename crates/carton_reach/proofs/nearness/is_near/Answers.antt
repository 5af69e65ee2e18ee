use Rattle.std.proofs.Common.{SFits, IsTrue, ◌↔◌}
use Rattle.std.specs.Int.{w128}
use Rattle.std.proofs.lemmas.Int.{to_z-of_z}
use Rattle.carton_base.proofs.Loops.{at_yes}
use Rattle.carton_reach.specs.Reaches.{IsNear}
use Rattle.carton_reach.proofs.nearness.is_near.Goals as goal

pub returns-then-is_never_beyond : goal.returns-then-is_never_beyond
returns-then-is_never_beyond c =
    let r : SFits w128 c.args.room = c.ranges.room in
    let one : IsNear c.args.room c.args.p c.args.q =
    simp to_z-of_z at (at_yes c.if-is_never_beyond.true c.is_never_beyond.ensures) in
    let other : IsTrue c.is_never_beyond-then-is_never_beyond.result ↔ IsNear c.args.room c.args.q c.args.p =
    simp to_z-of_z at c.is_never_beyond-then-is_never_beyond.ensures in
    (λ t. (one, other.0 t), λ b. other.1 b.1)
