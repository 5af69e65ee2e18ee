-- What `verify` tells: whether a fixture is good for a plan, or the first fault.
use Rattle.std.specs.Prelude.{⊤, ◌≡◌, ℕ, List, ◌++◌, codes, Ok}
use Rattle.carton_fixture.specs.Answers.{IsVerified}
use Rattle.carton_fixture.specs.Fixtures.{IsGoodFixture}
use Rattle.carton_fixture.specs.declared.answers.Verified.{Verified}
use Rattle.carton_fixture.specs.declared.answers.Verified.TheVariants.{PlanFails, OtherStroke, NotCandidate}
use Rattle.carton_fixture.specs.declared.answers.Verified.TheVariants.{Touches, Unheld, Holds}
use Rattle.carton_fixture_text.specs.FixtureRules.{IsFixture}
use Rattle.carton_fixture_text.specs.FixtureTexts.{fixture_of}
use Rattle.carton_fixture_text.specs.declared.fixture.Fixture.{Fixture}
use Rattle.carton_setup.specs.Files.{file_at}
use Rattle.carton_setup.specs.Outcomes.{Outcomes, ◌>>=◌, gives, values, reads}
use Rattle.carton_setup.specs.Printed.{line, spaced}
use Rattle.carton_setup.specs.Rules.{line_rule}
use Rattle.carton_setup.specs.Supplies.{supplies, IsFitted}
use Rattle.carton_setup.specs.Telling.{done, denied}
use Rattle.carton_setup.specs.declared.told.Told.{Told}
use Rattle.carton_lines.specs.declared.fault.LineError.TheVariants.{Memory}
use Rattle.carton_words.specs.declared.kinds.FileKind.TheVariants.{Fixture as FixtureFile}
use Rattle.carton_fixture_commands.specs.Fixture.{plan_fails_text}
use Rattle.carton_fixture_commands.specs.declared.verify.Claim.{Claim}
use Rattle.carton_fixture_commands.specs.Notes.{touch_line, unheld_text}

-- the line on a fixture, for a task of this stride
abbrev pub verified_text : ℕ → Verified → List ℕ
verified_text stride (PlanFails checked) = plan_fails_text stride checked
verified_text stride OtherStroke = line (codes "other stroke")
verified_text stride (NotCandidate place) = line (codes "not a candidate" ++ spaced place)
verified_text stride (Touches id panel step m) = touch_line id panel step m
verified_text stride (Unheld u) = line (unheld_text u)
verified_text stride (Holds bodies) = line (codes "holds" ++ spaced bodies)

-- that line is told, and done where the fixture holds
abbrev pub told_verified : ℕ → Verified → Told
told_verified stride (Holds bodies) = done (verified_text stride (Holds bodies))
told_verified stride (PlanFails checked) = denied (verified_text stride (PlanFails checked))
told_verified stride OtherStroke = denied (verified_text stride OtherStroke)
told_verified stride (NotCandidate place) = denied (verified_text stride (NotCandidate place))
told_verified stride (Touches id panel step m) = denied (verified_text stride (Touches id panel step m))
told_verified stride (Unheld u) = denied (verified_text stride (Unheld u))

-- the fixture of the fifth file
abbrev pub fixtures : List (List ℕ) → Outcomes Fixture
fixtures files = reads FixtureFile line_rule Memory (λ f. f) (fixture_of (file_at 4 files))

-- the fixture with all that a catalogue supplies for it: after the other files, a fault is looked for in the
-- text of the fixture
abbrev pub claims : List (List ℕ) → Outcomes Claim
claims files = do
  s ← supplies files
  f ← fixtures files
  gives (record { supply = s; fixture = f })

-- they keep their rules
pub record IsClaim (c : Claim) : Type 0 where
  pub supply : IsFitted c.supply
  pub fixture : IsFixture c.fixture

-- what came of verifying a fixture for a carton, a task, a plan and a catalogue
abbrev pub IsVerifiedFor : Claim → Verified → Type 0
IsVerifiedFor c verified = IsVerified c.supply.setup.carton c.supply.setup.task c.supply.plan
    c.supply.catalogue c.fixture verified

-- what `verify` may tell for the bytes of its files
abbrev pub tells_verify : List (List ℕ) → Outcomes Told
tells_verify files = do
  c ← claims files
  verified ← values (IsVerifiedFor c)
  gives (told_verified c.supply.setup.task.stride verified)

-- the bytes of the files are those of a fixture that is good for what the others supply
abbrev pub AreOfGood : List (List ℕ) → Type 0
AreOfGood files = (c : Claim) × claims files (Ok c)
    × IsGoodFixture c.supply.setup.carton c.supply.setup.task c.supply.plan c.supply.catalogue c.fixture

-- each answer but that the fixture holds is a fault of it
abbrev pub IsFault : Verified → Type 0
IsFault (Holds bodies) = ⊥
IsFault fault = ⊤

-- the text tells a fault of the fixture for what the bytes of the files supply, with its cause
abbrev pub IsTextOfFault : List (List ℕ) → List ℕ → Type 0
IsTextOfFault files text = (c : Claim) × (fault : Verified) × claims files (Ok c) × IsFault fault
    × IsVerifiedFor c fault × (text ≡ verified_text c.supply.setup.task.stride fault)
