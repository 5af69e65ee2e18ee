-- What a command tells.
use Rattle.std.specs.Prelude.{ℕ, List}
use Rattle.carton_setup.specs.declared.told.Ending.TheVariants.{Done, Refused, OutOfTurns}
use Rattle.carton_setup.specs.declared.told.Told.{Told}

-- what was asked for
abbrev pub done : List ℕ → Told
done text = record { text = text; ending = Done }

-- why it is denied
abbrev pub denied : List ℕ → Told
denied text = record { text = text; ending = Refused }

-- how far the budget of turns went
abbrev pub spent : List ℕ → Told
spent text = record { text = text; ending = OutOfTurns }
