use Rattle.std.proofs.Common.{ℕ, ◌<◌, IfSome, slice_get}
use Rattle.carton_catalogue.specs.Fits.{FitsGuide}
use Rattle.carton_catalogue.proofs.fitting.first_misfit.Given as goal

abbrev pub invariant-loop-n : goal.invariant-loop-n
invariant-loop-n l = (j : ℕ) → j < l.n → IfSome (slice_get l.guides j) (FitsGuide l.carton l.states)
