-- The rules that a fixture keeps.
use Rattle.std.specs.Prelude.{◌<◌, ◌≤◌, All, AllPairs}
use Rattle.carton_catalogue.specs.CatalogueRules.{IsStroke, IsBody}
use Rattle.carton_fixture_text.specs.declared.fixture.TheConstants.{LAST_BODY}
use Rattle.carton_fixture_text.specs.declared.fixture.Fixture.{Fixture}
use Rattle.carton_fixture_text.specs.declared.fixture.FixtureBody.{FixtureBody}

-- a box that a catalogue may have, with the number of a body
pub record IsFixtureBody (b : FixtureBody) : Type 0 where
  pub id : b.id ≤ LAST_BODY
  pub shape : IsBody b.shape

-- the fixture keeps every rule of its text
pub record IsFixture (f : Fixture) : Type 0 where
  pub stroke : IsStroke f.stroke
  pub each : All IsFixtureBody f.bodies
  pub rising : AllPairs (λ b c. b.id < c.id) f.bodies
