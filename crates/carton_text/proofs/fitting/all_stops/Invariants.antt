use Rattle.std.proofs.Common.{◌≡◌, ℕ, ◌<◌, length, get_or, pos}
use Rattle.carton_base.specs.declared.limits.TheConstants.{MOST_JOINTS}
use Rattle.carton_text.proofs.fitting.all_stops.Given as goal

abbrev pub invariant-loop-place : goal.invariant-loop-place
invariant-loop-place l = record {
  whole : length l.all ≡ MOST_JOINTS;
  filled : (k : ℕ) → k < l.place → get_or l.all k (pos 0) ≡ get_or l.stops k (pos 0);
}
