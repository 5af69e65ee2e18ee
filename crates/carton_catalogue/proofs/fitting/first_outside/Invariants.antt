use Rattle.std.proofs.Common.{ℕ, ◌<◌, IfSome, slice_get}
use Rattle.carton_catalogue.specs.Fits.{IsOnShape}
use Rattle.carton_catalogue.proofs.fitting.first_outside.Given as goal

abbrev pub invariant-loop-k : goal.invariant-loop-k
invariant-loop-k l = (j : ℕ) → j < l.k → IfSome (slice_get l.probes j) (IsOnShape l.shape)
