use Rattle.std.proofs.Common.{SFits, IsTrue, ◌↔◌, ◌+ℤ◌, ◌-ℤ◌, ◌≤ℤ◌}
use Rattle.std.specs.Int.{w128}
use Rattle.std.proofs.lemmas.Int.{to_z-of_z}
use Rattle.carton_base.proofs.Loops.{at_yes}
use Rattle.carton_stroke.proofs.nearness.is_near.Goals as goal

pub returns-then-is_never_beyond : goal.returns-then-is_never_beyond
returns-then-is_never_beyond c =
    let r : SFits w128 c.args.room = c.ranges.room in
    let one : c.args.body.least_high ≤ℤ (c.args.panel.greatest_low +ℤ c.args.room) =
    simp to_z-of_z at (at_yes c.if-is_never_beyond.true c.is_never_beyond.ensures) in
    let other : IsTrue c.is_never_before.result
    ↔ ((c.args.panel.least_high -ℤ c.args.room) ≤ℤ c.args.body.greatest_low) =
    simp to_z-of_z at c.is_never_before.ensures in
    (λ t. (one, other.0 t), λ b. other.1 b.1)
