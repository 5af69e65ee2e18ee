-- What a command finds and tells, for what it takes from its files.
use Rattle.std.specs.Prelude.{⊤, ℕ, List}
use Rattle.carton_setup.specs.Outcomes.{Outcomes, ◌>>=◌, gives, values}
use Rattle.carton_setup.specs.declared.taking.Nothing.{Nothing}
use Rattle.carton_setup.specs.declared.told.Told.{Told}

-- nothing is taken of no files
abbrev pub takes_nothing : List (List ℕ) → Outcomes Nothing
takes_nothing files = values (λ nothing. ⊤)

-- what may be found for the bytes of the files
abbrev pub found_by : {G X : Type 0} → (List (List ℕ) → Outcomes G) → (G → Outcomes X) → List (List ℕ)
    → Outcomes X
found_by takes finds files = takes files >>= finds

-- what may be told
abbrev pub told_by : {G X : Type 0} → (List (List ℕ) → Outcomes G) → (G → Outcomes X) → (G → X → Told)
    → List (List ℕ) → Outcomes Told
told_by takes finds told files = do
  given ← takes files
  found ← finds given
  gives (told given found)
