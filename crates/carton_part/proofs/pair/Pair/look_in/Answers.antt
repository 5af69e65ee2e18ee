use Rattle.std.proofs.Common.{rules, arith, SFits, pos, ◌+ℤ◌, ◌*ℤ◌, ◌≤ℤ◌}
use Rattle.std.specs.Int.{w64}
use Rattle.std.proofs.lemmas.Int.{ints, to_z-of_z}
use Rattle.carton_base.proofs.Loops.{at_yes, at_no}
use Rattle.carton_base.proofs.Products.{mul_add_right}
use Rattle.carton_reach.specs.Reaches.{half}
use Rattle.carton_part.proofs.Looked.{parted_by, unparted_in, has_halves}
use Rattle.carton_part.proofs.pair.Pair.look_in.Goals as goal

pub returns-then-are_apart-clause-good : goal.returns-then-are_apart-clause-good
returns-then-are_apart-clause-good g c = λ _.
    let p = c.args.self.now in
    let gap : SFits w64 c.gap_halves.result = search rules in
    let way = at_yes c.if-not-is_on_way.false c.is_on_way.ensures in
    let some = rw c.gap_halves.ensures at
    (simp to_z-of_z at (at_yes c.if-are_apart.true c.are_apart.ensures)) in
    let first = c.in-Some.ensures.reach in
    parted_by _ _ _ _ _ _ _ _ _ (pos 2 *ℤ p.gap) way first c.in-Some-reaches_in.ensures.reach some

pub returns-then-are_near-clause-bad : goal.returns-then-are_near-clause-bad
returns-then-are_near-clause-bad g c = λ _ _.
    let p = c.args.self.now in
    let wide : SFits w64 c.wide_halves.result = search rules in
    let all = rw c.wide_halves.ensures at
    (simp to_z-of_z at (at_yes c.if-are_near.true c.are_near.ensures)) in
    let first = c.in-Some.ensures.reach in
    unparted_in _ _ _ _ _ _ _ _ _ (pos 2 *ℤ p.gap +ℤ pos p.slack) first c.in-Some-reaches_in.ensures.reach all

pub returns-clause-open : goal.returns-clause-open
returns-clause-open g c = λ _.
    let p = c.args.self.now in
    let gap : SFits w64 c.gap_halves.result = search rules in
    let wide : SFits w64 c.wide_halves.result = search rules in
    let apart = simp to_z-of_z at (at_no c.if-are_apart.false c.are_apart.ensures) in
    let near = simp to_z-of_z at (at_no c.if-are_near.false c.are_near.ensures) in
    let more : (c.gap_halves.result *ℤ half +ℤ half) ≤ℤ (c.wide_halves.result *ℤ half) =
    rw (c.gap_halves.ensures, c.wide_halves.ensures)
    (omega (arith, ints, mul_add_right (pos 2 *ℤ p.gap) (pos p.slack) half, p.some_slack)) in
    let first = c.in-Some.ensures.reach in
    let second = c.in-Some-reaches_in.ensures.reach in
    has_halves _ _ _ _ _ _ _ _ _ _ _ first second c.args.piece.shallow more apart near
