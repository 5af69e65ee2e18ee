-- What a move asks of one joint.
use Rattle.std.specs.Prelude.{ℕ}
use Rattle.carton_base.specs.declared.motion.Motion.{Motion}
use Rattle.carton_model.specs.Moves.{IsStop, IsStep, stop_of}

-- the move may take the joint at place k as it does
pub record MayTake (m : Motion) (k : ℕ) : Type 0 where
  pub from : IsStop m.from.grid (stop_of m.from k)
  pub to : IsStop m.to.grid (stop_of m.to k)
  pub step : IsStep (stop_of m.from k) (stop_of m.to k)
