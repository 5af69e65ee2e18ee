-- What `pose` tells: where the corners of the panels stand in a state of a task.
use Rattle.std.specs.Prelude.{ℕ, List}
use Rattle.carton_text.specs.Poses.{IsPose}
use Rattle.carton_setup.specs.Outcomes.{Outcomes, ◌>>=◌, gives, values}
use Rattle.carton_setup.specs.Setups.{setups, state_at}
use Rattle.carton_setup.specs.Telling.{done}
use Rattle.carton_setup.specs.declared.setup.Setup.{Setup}
use Rattle.carton_setup.specs.declared.told.Told.{Told}
use Rattle.carton_words.specs.declared.ends.End.{End}

-- the pose of a task's state at this end
abbrev pub IsPoseAt : End → Setup → List ℕ → Type 0
IsPoseAt end s text = IsPose s.carton (state_at end s.task) text

-- what `pose` may tell at this end for the bytes of its files
abbrev pub tells_pose : End → List (List ℕ) → Outcomes Told
tells_pose end files = do
  s ← setups files
  text ← values (IsPoseAt end s)
  gives (done text)
