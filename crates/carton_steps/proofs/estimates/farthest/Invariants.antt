use Rattle.std.proofs.Common.{◌≡◌, drop}
use Rattle.std.specs.Prelude.{max}
use Rattle.carton_steps.specs.Estimates.{farthest}
use Rattle.carton_steps.proofs.estimates.farthest.Given as goal

abbrev pub invariant-loop-place : goal.invariant-loop-place
invariant-loop-place l = max l.most (farthest l.target l.at (drop l.place-index l.members))
    ≡ farthest l.target l.at l.members
