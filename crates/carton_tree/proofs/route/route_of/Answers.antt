use Rattle.std.proofs.Common.{◌+◌, ◌≤◌, length, sym, arith}
use Rattle.carton_base.specs.declared.limits.TheConstants.{LONGEST_PATH}
use Rattle.carton_tree.proofs.Returning.{length-way, way_taken}
use Rattle.carton_tree.proofs.route.route_of.Goals as goal

pub returns : goal.returns
returns c =
    let up = c.args.up.now in
    let down = c.args.down.now in
    let few : length up + length down ≤ LONGEST_PATH = c.if-count-gt-LONGEST_PATH.false in (
      sym (length-way up down),
      way_taken up down c.loop-i.turns (omega (arith, few, c.loop-i.invariant.len))
          (λ j t lt. c.loop-i.invariant.each j t (omega (arith, lt, c.loop-i-test.false))),
    )
