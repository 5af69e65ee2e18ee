use Rattle.std.proofs.Common.{pos, arith}
use Rattle.std.proofs.lemmas.List.FromFn.{fill_by_all}
use Rattle.carton_base.specs.declared.limits.TheConstants.{MOST_JOINTS}
use Rattle.carton_text.specs.Tasks.{stop_at}
use Rattle.carton_text.proofs.fitting.all_stops.Goals as goal

pub returns : goal.returns
returns c = fill_by_all (stop_at c.args.stops.now) c.loop-place.all MOST_JOINTS (pos 0)
    c.loop-place.invariant.whole
    (λ k lt. c.loop-place.invariant.filled k (omega (arith, c.loop-place-test.false)))
