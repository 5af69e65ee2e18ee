-- The two ends of a guide's band: the fold of the guided joint made smaller or greater by the band, and all
-- other folds as they are.
use Rattle.std.specs.Prelude.{ℕ, ◌*◌, ◌/◌, nat_eq, if◌then◌else◌, ℤ, pos, ◌+ℤ◌, ◌-ℤ◌}
use Rattle.carton_base.specs.declared.motion.State.{State}
use Rattle.carton_model.specs.HalfTurns.{Fold, joint_fold}
use Rattle.carton_model.specs.Moves.{stop_of}
use Rattle.carton_guide.specs.declared.note.End.{End}
use Rattle.carton_guide.specs.declared.note.End.TheVariants.{Under, Over}

-- how many stops of the grid are so many eighths of a right angle
abbrev pub band_stops : ℕ → ℕ → ℕ
band_stops grid band = band * grid / 8

-- the stop at this end of a band of so many stops
abbrev pub shifted : End → ℕ → ℤ → ℤ
shifted Under by stop = stop -ℤ pos by
shifted Over by stop = stop +ℤ pos by

-- the stop of the free joint at place k in a state, with the joint at the guided place at this end of its
-- band
abbrev pub banded_stop : End → ℕ → ℕ → State → ℕ → ℤ
banded_stop end band place s k = if nat_eq k place then shifted end (band_stops s.grid band) (stop_of s k)
    else stop_of s k

-- the folds of this end at the moment n / d of the move from the one state to the other
abbrev pub banded_folds : End → ℕ → ℕ → State → State → ℕ → ℕ → ℕ → Fold
banded_folds end band place s r n d k =
    joint_fold (banded_stop end band place s k) (banded_stop end band place r k) s.grid n d
