use Rattle.std.proofs.Common.{◌-◌, ◌^◌}
use Rattle.carton_lines.proofs.Digits.{one_more}
use Rattle.carton_lines.proofs.decimals.size_of.Goals as goal

pub loop-digit-preserved : goal.loop-digit-preserved
loop-digit-preserved c =
    rw c.with_digit-size.ensures (one_more c.args.digits.now c.loop-digit.digit-index c.loop-digit.size
    (2 ^ 64 - 1) c.requires c.loop-digit-test.true c.loop-digit.invariant)
