use Rattle.std.proofs.Common.{◌≡◌, ℕ, ◌<◌, length, ◌∙◌, arith}
use Rattle.carton_base.proofs.Loops.{yes, no}
use Rattle.carton_panels.specs.Around.{Step, around}
use Rattle.carton_panels.proofs.Steps.{length-around}
use Rattle.carton_tree.proofs.sides.goes.Goals as goal

pub returns-then-to-q : goal.returns-then-to-q
returns-then-to-q c =
    let here : c.loop-i.i < length (around c.args.vertices.now) =
    omega (arith, length-around c.args.vertices.now, c.loop-i-test.true) in
    let wanted : Step ℕ = record { from = c.args.p; to = c.args.q } in
    let same : (record { from = c.side_at-from.result.0; to = c.side_at-from.result.1 }) ≡ wanted =
    λ i. record { from = c.if-from-p.true i; to = c.if-to-q.true i } in
    yes (c.loop-i.i, here, c.side_at-from.ensures wanted ∙ same)

pub returns : goal.returns
returns c = no (λ h.
    let lt : h.0 < c.loop-i.i = omega (arith, length-around c.args.vertices.now, h.1, c.loop-i-test.false) in
    c.loop-i.invariant h.0 (record { from = c.args.p; to = c.args.q }) lt h.1 h.2)
