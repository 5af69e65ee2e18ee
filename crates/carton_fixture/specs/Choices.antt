-- Bodies of a fixture and the candidates that they are.
use Rattle.std.specs.Prelude.{◌≡◌, ℕ, ◌<◌, Bool, true, false, List, map, slice_get, slice_set, Some}
use Rattle.carton_base.specs.declared.bodies.Cuboid.{Cuboid}
use Rattle.carton_fixture_text.specs.declared.fixture.FixtureBody.{FixtureBody}

-- the candidate with the number of the body is that body
abbrev pub IsCandidate : List Cuboid → FixtureBody → Type 0
IsCandidate candidates b = slice_get candidates b.id ≡ Some b.shape

-- the boxes of the bodies
abbrev pub boxes : List FixtureBody → List Cuboid
boxes bodies = map (λ b. b.shape) bodies

-- each of the bodies is chosen
abbrev pub each_of : List FixtureBody → List Bool
each_of bodies = map (λ b. true) bodies

-- each but the one in this place
abbrev pub each_but : ℕ → List FixtureBody → List Bool
each_but k bodies = slice_set (each_of bodies) k false

-- the body in this place is the first that isn't a candidate
pub record IsFirstStranger (candidates : List Cuboid) (bodies : List FixtureBody) (k : ℕ) : Type 0 where
  pub stranger : FixtureBody
  pub there : slice_get bodies k ≡ Some stranger
  pub other : ¬ (IsCandidate candidates stranger)
  pub before : (j : ℕ) (b : FixtureBody) → j < k → slice_get bodies j ≡ Some b → IsCandidate candidates b
