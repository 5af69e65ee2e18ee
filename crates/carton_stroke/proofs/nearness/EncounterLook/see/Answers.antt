use Rattle.std.proofs.Common.{arith, pos, ◌*ℤ◌, ◌≤ℤ◌}
use Rattle.std.proofs.lemmas.Int.{ints}
use Rattle.carton_base.proofs.Loops.{at_yes, at_no}
use Rattle.carton_reach.specs.Reaches.{half}
use Rattle.carton_stroke.proofs.Seen.{all_axes, apart_from, not_apart, has_halves}
use Rattle.carton_stroke.proofs.nearness.EncounterLook.see.Goals as goal

pub are_apart-requires-clause-panel : goal.are_apart-requires-clause-panel
are_apart-requires-clause-panel c =
    let reaches = c.reaches_in_world-reaches in
    all_axes _ _ _ _ _ reaches.result c.args.piece.within reaches.ensures

pub are_near-requires-clause-panel : goal.are_near-requires-clause-panel
are_near-requires-clause-panel c =
    let reaches = c.reaches_in_world-reaches in
    all_axes _ _ _ _ _ reaches.result c.args.piece.within reaches.ensures

pub returns-then-are_apart-clause-good : goal.returns-then-are_apart-clause-good
returns-then-are_apart-clause-good c = λ _.
    let p = c.args.self.now in
    let found = at_yes c.if-are_apart.true c.are_apart.ensures in
    apart_from p.carton.now p.motion.now p.panel.0 c.args.piece.index c.args.piece.depth p.body.now _ _
    c.reaches_in_world-reaches.ensures c.extents_over-extents.ensures.extents found

pub returns-then-are_near-clause-bad : goal.returns-then-are_near-clause-bad
returns-then-are_near-clause-bad c = λ _.
    let p = c.args.self.now in
    let found = at_yes c.if-are_near.true c.are_near.ensures in
    not_apart p.carton.now p.motion.now p.panel.0 c.args.piece.index c.args.piece.depth p.body.now _ _
    (pos 2 *ℤ pos p.slack) c.reaches_in_world-reaches.ensures c.extents_over-extents.ensures.extents found

pub returns-clause-open : goal.returns-clause-open
returns-clause-open c = λ _.
    let p = c.args.self.now in
    let wide : half ≤ℤ ((pos 2 *ℤ pos p.slack) *ℤ half) = omega (arith, ints, p.some_slack) in
    let apart = at_no c.if-are_apart.false c.are_apart.ensures in
    let near = at_no c.if-are_near.false c.are_near.ensures in
    has_halves p.carton.now p.motion.now p.panel.0 c.args.piece.index c.args.piece.depth p.body.now _ _
    ((pos 2 *ℤ pos p.slack) *ℤ half) c.reaches_in_world-reaches.ensures c.extents_over-extents.ensures.extents
    c.args.piece.shallow wide apart near
