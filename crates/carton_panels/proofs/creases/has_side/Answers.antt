use Rattle.std.proofs.Common.{ℕ, ◌<◌, ◌≤◌, length, get_or, sym, arith}
use Rattle.carton_panels.specs.Around.{Step, around}
use Rattle.carton_panels.specs.Creases.{HasEnds}
use Rattle.carton_panels.proofs.Steps.{length-around, step_at}
use Rattle.carton_base.proofs.Loops.{yes, no, at_yes, at_no, none_more, any_at, none_any}
use Rattle.carton_panels.proofs.creases.has_side.Goals as goal

pub returns-then-has_ends : goal.returns-then-has_ends
returns-then-has_ends c =
    let vs = c.args.vertices.now in
    let s : Step ℕ = record { from = get_or vs c.loop-k.k 0; to = get_or vs c.next_in_round.result 0 } in
    let here : c.loop-k.k < length (around vs) = omega (arith, length-around vs) in
    yes (any_at (λ (s : Step ℕ). HasEnds c.args.edge s.from s.to) (around vs) c.loop-k.k s here
    (sym (step_at vs c.loop-k.k c.next_in_round.result s 0 c.loop-k-test.true
    c.next_in_round.ensures.inner c.next_in_round.ensures.last))
    (at_yes c.if-has_ends.true c.has_ends.ensures))

pub loop-k-preserved : goal.loop-k-preserved
loop-k-preserved c =
    let vs = c.args.vertices.now in
    let s : Step ℕ = record { from = get_or vs c.loop-k.k 0; to = get_or vs c.next_in_round.result 0 } in
    let here : c.loop-k.k < length (around vs) = omega (arith, length-around vs) in
    none_more (λ (s : Step ℕ). HasEnds c.args.edge s.from s.to) (around vs) c.loop-k.k s here
    (sym (step_at vs c.loop-k.k c.next_in_round.result s 0 c.loop-k-test.true
    c.next_in_round.ensures.inner c.next_in_round.ensures.last))
    (at_no c.if-has_ends.false c.has_ends.ensures) c.loop-k.invariant

pub returns : goal.returns
returns c =
    let vs = c.args.vertices.now in
    let end' : length (around vs) ≤ c.loop-k.k = omega (arith, length-around vs) in
    no (none_any (λ (s : Step ℕ). HasEnds c.args.edge s.from s.to) (around vs) c.loop-k.k end'
    c.loop-k.invariant)
