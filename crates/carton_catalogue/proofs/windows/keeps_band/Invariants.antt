use Rattle.std.proofs.Common.{ℕ, ◌≤◌, ◌<◌, IfSome, slice_get}
use Rattle.carton_place.specs.States.{fold_in}
use Rattle.carton_catalogue.specs.Fits.{HasRoomFor}
use Rattle.carton_catalogue.proofs.windows.keeps_band.Given as goal

abbrev pub invariant-loop-i : goal.invariant-loop-i
invariant-loop-i l = (j : ℕ) → l.guide.first ≤ j → j < l.i
    → IfSome (slice_get l.states j) (λ s. HasRoomFor l.guide.band (fold_in s l.place))
