use Rattle.std.proofs.Common.{SFits, to_z-of_z, arith}
use Rattle.std.proofs.lemmas.Int.{ints}
use Rattle.std.specs.Int.{w8}
use Rattle.carton_number_tests.proofs.Stops.{is_motion}
use Rattle.carton_number_tests.proofs.placing.motion_of.Goals as goal

pub returns : goal.returns
returns c =
    let from : SFits w8 c.args.from = c.ranges.from in
    let to : SFits w8 c.args.to = c.ranges.to in
    let second_from : SFits w8 c.args.second_from = c.ranges.second_from in
    let second_to : SFits w8 c.args.second_to = c.ranges.second_to in
    let first = simp to_z-of_z at c.stops_at.ensures in
    let last = simp to_z-of_z at c.stops_at-2.ensures in
    let first_step = simp to_z-of_z at c.abs_diff.ensures in
    let second_step = simp to_z-of_z at c.abs_diff-else-abs_diff-gt4.ensures in
    let a = simp to_z-of_z at c.unsigned_abs.ensures.value in
    let b = simp to_z-of_z at c.unsigned_abs-else-unsigned_abs-most.ensures.value in
    let d = simp to_z-of_z at c.unsigned_abs-2.ensures.value in
    let e = simp to_z-of_z at c.unsigned_abs-else-unsigned_abs-most-3.ensures.value in
    is_motion _ c.args.from c.args.second_from c.args.to c.args.second_to first last
    (omega (arith, ints, a, c.if-unsigned_abs-most.false))
    (omega (arith, ints, b, c.if-unsigned_abs-most-2.false))
    (omega (arith, ints, d, c.if-unsigned_abs-most-3.false))
    (omega (arith, ints, e, c.if-unsigned_abs-most-4.false))
    (omega (arith, ints, first_step, c.if-abs_diff-gt4.false))
    (omega (arith, ints, second_step, c.if-abs_diff-gt4-2.false))
