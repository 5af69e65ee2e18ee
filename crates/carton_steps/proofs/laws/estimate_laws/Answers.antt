use Rattle.carton_steps.proofs.Falling.{none_left, step_falls, low}
use Rattle.carton_steps.proofs.laws.estimate_laws.Goals as goal

pub returns : goal.returns
returns c = record { none_left = none_left; falls = step_falls; low = low }
