use Rattle.std.proofs.Common.{◌≡◌, ℕ, ◌<◌, length, drop}
use Rattle.carton_base.specs.declared.limits.TheConstants.{MOST_JOINTS}
use Rattle.carton_steps.specs.Steps.{stop_after}
use Rattle.carton_steps.proofs.Stops.{written}
use Rattle.carton_steps.proofs.stepping.moved.Given as goal

abbrev pub invariant-loop-place : goal.invariant-loop-place
invariant-loop-place l = record {
  whole : length l.stops ≡ MOST_JOINTS;
  kept : (k : ℕ) → k < MOST_JOINTS → written l.stride l.goal l.at (drop l.place-index l.members) l.stops k
      ≡ stop_after l.stride l.members l.goal l.at k;
}
