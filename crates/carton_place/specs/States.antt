-- The folds of the free joints in a state.
use Rattle.std.specs.Prelude.{ℕ}
use Rattle.carton_base.specs.declared.motion.State.{State}
use Rattle.carton_model.specs.HalfTurns.{Fold, stop_fold}
use Rattle.carton_model.specs.Moves.{stop_of}

-- the fold of the free joint at place k in a state: its stop over the grid
abbrev pub fold_in : State → ℕ → Fold
fold_in s k = stop_fold (stop_of s k) s.grid
