-- What `run` promises of fixtures of every dieline, job, plan and catalogue, to be read aloud.
use Rattle.std.specs.Prelude.{ℕ, List, [], ◌∷◌, Option}
use Rattle.carton_fixture_commands.specs.Fixture.{IsSpellingOfMade, IsTextOfRefusal}
use Rattle.carton_fixture_commands.specs.Verify.{AreOfGood, IsTextOfFault}
use Rattle.carton_words.specs.Commands.{IsCommand}
use Rattle.carton_words.specs.Kinds.{Named}
use Rattle.carton_words.specs.declared.kinds.FileKind.TheVariants.{Dieline, Job, Catalogue}
use Rattle.carton_words.specs.declared.kinds.FileKind.TheVariants.{Plan as PlanFile, Fixture as FixtureFile}
use Rattle.carton_words.specs.declared.table.Verb.{Verb}
use Rattle.carton_words.specs.declared.table.Verb.TheVariants.{Fixture, Verify}
use Rattle.carton_tool.specs.Files.{AreTold}
use Rattle.carton_tool.specs.Headline.{asks}

-- the names of the files that `fixture` reads
abbrev pub and_catalogue : List ℕ → List ℕ → List ℕ → List ℕ → List Named
and_catalogue dieline job plan catalogue =
    record { kind = Dieline; name = dieline } ∷ record { kind = Job; name = job }
    ∷ record { kind = PlanFile; name = plan } ∷ record { kind = Catalogue; name = catalogue } ∷ []

-- and of those that `verify` reads
abbrev pub and_fixture : List ℕ → List ℕ → List ℕ → List ℕ → List ℕ → List Named
and_fixture dieline job plan catalogue fixture =
    record { kind = Dieline; name = dieline } ∷ record { kind = Job; name = job }
    ∷ record { kind = PlanFile; name = plan } ∷ record { kind = Catalogue; name = catalogue }
    ∷ record { kind = FixtureFile; name = fixture } ∷ []

-- if the words are this verb and these files, a text was written, and P holds of the told bytes of the files
-- and of the text
abbrev pub TellsOf : (List ℕ → Option (List ℕ)) → List (List ℕ) → (List ℕ → Type 0) → Verb → List Named
    → (List (List ℕ) → List ℕ → Type 0) → Type 0
TellsOf holds words wrote verb names P = IsCommand words (asks verb names) → (files : List (List ℕ))
    × AreTold holds names files × (text : List ℕ) × P files text × wrote text

-- if the words are `fixture DIELINE JOB PLAN CATALOGUE`, exactly the spelling of a fixture was written that
-- is made of the told catalogue for the told plan
abbrev pub TellsMadeFixture : (List ℕ → Option (List ℕ)) → List (List ℕ) → (List ℕ → Type 0) → Type 0
TellsMadeFixture holds words wrote = (dieline job plan catalogue : List ℕ)
    → TellsOf holds words wrote Fixture (and_catalogue dieline job plan catalogue) IsSpellingOfMade

-- if the words are `verify DIELINE JOB PLAN CATALOGUE FIXTURE`, the told fixture is good for the told plan
abbrev pub TellsGoodFixture : (List ℕ → Option (List ℕ)) → List (List ℕ) → (List ℕ → Type 0) → Type 0
TellsGoodFixture holds words wrote = (dieline job plan catalogue fixture : List ℕ)
    → TellsOf holds words wrote Verify (and_fixture dieline job plan catalogue fixture) (λ files text.
    AreOfGood files)

-- if the words are `fixture DIELINE JOB PLAN CATALOGUE`, exactly the text was written that tells why no
-- fixture is made of the told catalogue for the told plan, with its true cause
abbrev pub TellsWhyNotMade : (List ℕ → Option (List ℕ)) → List (List ℕ) → (List ℕ → Type 0) → Type 0
TellsWhyNotMade holds words wrote = (dieline job plan catalogue : List ℕ)
    → TellsOf holds words wrote Fixture (and_catalogue dieline job plan catalogue) IsTextOfRefusal

-- if the words are `verify DIELINE JOB PLAN CATALOGUE FIXTURE`, exactly the text of a fault of the told
-- fixture was written, with its true cause
abbrev pub TellsFault : (List ℕ → Option (List ℕ)) → List (List ℕ) → (List ℕ → Type 0) → Type 0
TellsFault holds words wrote = (dieline job plan catalogue fixture : List ℕ)
    → TellsOf holds words wrote Verify (and_fixture dieline job plan catalogue fixture) IsTextOfFault
