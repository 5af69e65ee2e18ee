-- What `fixture` tells: a fixture for a plan, or why none is made.
use Rattle.std.specs.Prelude.{⊤, ◌≡◌, ◌⊎◌, ℕ, List, ◌++◌, codes, Ok}
use Rattle.carton_check.specs.declared.checked.Checked.{Checked}
use Rattle.carton_fixture.specs.Answers.{IsFailure, IsMade, IsRefusal}
use Rattle.carton_fixture.specs.declared.answers.UnheldEnd.{UnheldEnd}
use Rattle.carton_fixture_text.specs.FixtureRules.{IsFixture}
use Rattle.carton_fixture_text.specs.FixtureTexts.{spelling}
use Rattle.carton_fixture_text.specs.declared.fixture.Fixture.{Fixture}
use Rattle.carton_setup.specs.Checks.{checked_text}
use Rattle.carton_setup.specs.Outcomes.{Outcomes, ◌>>=◌, gives, values}
use Rattle.carton_setup.specs.Printed.{line}
use Rattle.carton_setup.specs.Supplies.{supplies}
use Rattle.carton_setup.specs.Telling.{done, denied}
use Rattle.carton_setup.specs.declared.supply.Supply.{Supply}
use Rattle.carton_setup.specs.declared.told.Told.{Told}
use Rattle.carton_stroke.specs.declared.note.BodyNote.{BodyNote}
use Rattle.carton_fixture_commands.specs.Notes.{note_lines, unheld_text}
use Rattle.carton_fixture_commands.specs.declared.fixture.MadeFixture.{MadeFixture}
use Rattle.carton_fixture_commands.specs.declared.fixture.MadeFixture.TheVariants.{Made, PlanFails, NotHeld}

-- the text where the plan doesn't hold
abbrev pub plan_fails_text : ℕ → Checked → List ℕ
plan_fails_text stride checked = codes "plan " ++ line (checked_text stride checked)

-- the text where the candidates that clear the plan don't hold an end of a guide
abbrev pub not_held_text : List BodyNote → UnheldEnd → List ℕ
not_held_text bodies unheld = line (codes "refused") ++ note_lines 0 bodies ++ line (unheld_text unheld)

-- what is told
abbrev pub told_fixture : ℕ → MadeFixture → Told
told_fixture stride (Made fixture) = done (spelling fixture)
told_fixture stride (PlanFails checked) = denied (plan_fails_text stride checked)
told_fixture stride (NotHeld bodies unheld) = denied (not_held_text bodies unheld)

-- what may come of making a fixture for a carton, a task, a plan and a catalogue, with its cause
abbrev pub IsMadeFor : Supply → MadeFixture → Type 0
IsMadeFor s (Made fixture) = IsMade s.setup.carton s.setup.task s.plan s.catalogue fixture
IsMadeFor s (PlanFails checked) = IsFailure s.setup.carton s.setup.task s.plan checked
IsMadeFor s (NotHeld bodies unheld) = IsRefusal s.setup.carton s.setup.task s.plan s.catalogue bodies unheld

-- a fixture that was made keeps the rules of its text
abbrev pub IsWritable : MadeFixture → Type 0
IsWritable (Made fixture) = IsFixture fixture
IsWritable (PlanFails checked) = ⊤
IsWritable (NotHeld bodies unheld) = ⊤

-- what `fixture` may tell for the bytes of its files
abbrev pub tells_fixture : List (List ℕ) → Outcomes Told
tells_fixture files = do
  s ← supplies files
  made ← values (IsMadeFor s)
  gives (told_fixture s.setup.task.stride made)

-- the text is the spelling of a fixture that is made for what the bytes of the files supply: it is good for
-- the plan, and none of its bodies can be left out
abbrev pub IsSpellingOfMade : List (List ℕ) → List ℕ → Type 0
IsSpellingOfMade files text = (s : Supply) × (f : Fixture) × supplies files (Ok s)
    × IsMade s.setup.carton s.setup.task s.plan s.catalogue f × (text ≡ spelling f)

-- the text is what a check says of the plan, with its cause, and the plan doesn't hold
abbrev pub TellsFailure : Supply → List ℕ → Type 0
TellsFailure s text = (checked : Checked) × IsFailure s.setup.carton s.setup.task s.plan checked
    × (text ≡ plan_fails_text s.setup.task.stride checked)

-- the text has for each candidate, in their order, that the plan clears it, or a panel that touches it in a
-- move and when, and then an end of a guide that those which it clears don't hold well at a moment
abbrev pub TellsNotHeld : Supply → List ℕ → Type 0
TellsNotHeld s text = (bodies : List BodyNote) × (unheld : UnheldEnd)
    × IsRefusal s.setup.carton s.setup.task s.plan s.catalogue bodies unheld
    × (text ≡ not_held_text bodies unheld)

-- the text tells why no fixture is made for what the bytes of the files supply
abbrev pub IsTextOfRefusal : List (List ℕ) → List ℕ → Type 0
IsTextOfRefusal files text =
    (s : Supply) × supplies files (Ok s) × (TellsFailure s text ⊎ TellsNotHeld s text)
