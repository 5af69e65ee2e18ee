-- What the steps of making and verifying a fixture tell on the way.
use Rattle.std.specs.Prelude.{◌≡◌, ℕ, ◌<◌, ◌≤◌, Bool, true, false, List, slice_get, slice_set, replicate, All}
use Rattle.std.specs.Prelude.{AllPairs, Any, Option, None, Some, ℤ}
use Rattle.carton_base.specs.declared.bodies.Cuboid.{Cuboid}
use Rattle.carton_base.specs.declared.limits.TheConstants.{WIDEST_SLACK}
use Rattle.carton_bodies.specs.Boxes.{faces}
use Rattle.carton_catalogue.specs.declared.catalogue.Catalogue.{Catalogue}
use Rattle.carton_catalogue.specs.CatalogueRules.{IsCatalogue}
use Rattle.carton_catalogue.specs.Fits.{FitsGuide}
use Rattle.carton_fixture_text.specs.declared.fixture.FixtureBody.{FixtureBody}
use Rattle.carton_guide.specs.Holding.{IsChosen}
use Rattle.carton_stroke.specs.Clear.{IsClearOf}
use Rattle.carton_stroke.specs.Notes.{IsTouching}
use Rattle.carton_text.specs.declared.plan.Plan.{Plan}
use Rattle.carton_text.specs.TaskPlans.{IsPlanOf}
use Rattle.carton_tree.specs.Trees.{Tree}
use Rattle.carton_fixture.specs.declared.answers.UnheldEnd.{UnheldEnd}
use Rattle.carton_fixture.specs.declared.answers.Verified.{Verified}
use Rattle.carton_fixture.specs.declared.answers.Verified.TheVariants.{Touches}
use Rattle.carton_fixture.specs.Choices.{IsCandidate, IsFirstStranger}
use Rattle.carton_fixture.specs.Fixtures.{HoldAll, IsUnheld}

-- a catalogue that fits a plan of the carton, and a slack
pub record IsReady (t : Tree) (plan : Plan) (c : Catalogue) (slack : ℕ) : Type 0 where
  pub plan_is : IsPlanOf t plan
  pub catalogue : IsCatalogue c
  pub fits : All (FitsGuide t plan.states) c.guides
  pub some : 1 ≤ slack
  pub narrow : slack ≤ WIDEST_SLACK

-- what is told of the chosen candidates: that they hold every guide, or where they don't
abbrev pub IsAsked : Tree → Plan → Catalogue → List Bool → ℕ → Option UnheldEnd → Type 0
IsAsked t plan c chosen slack None = HoldAll t plan c.guides c.stroke c.bodies chosen
IsAsked t plan c chosen slack (Some u) = IsUnheld t plan c.guides c.stroke c.bodies chosen slack u

-- each that is chosen of the one is chosen of the other
abbrev pub AreFewer : List Bool → List Bool → Type 0
AreFewer fewer more = (k : ℕ) → slice_get fewer k ≡ Some true → slice_get more k ≡ Some true

-- without candidate k the chosen ones don't hold every guide well
abbrev pub IsWanted : Tree → Plan → Catalogue → ℕ → List Bool → ℕ → Type 0
IsWanted t plan c slack chosen k =
    (u : UnheldEnd) × IsUnheld t plan c.guides c.stroke c.bodies (slice_set chosen k false) slack u

-- candidate k was tried: the chosen ones hold every guide, and if k is still one of them, it is wanted
pub record IsTried (t : Tree) (plan : Plan) (c : Catalogue) (slack : ℕ) (before chosen : List Bool)
    (k : ℕ) : Type 0 where
  pub held : HoldAll t plan c.guides c.stroke c.bodies chosen
  pub fewer : AreFewer chosen before
  pub wanted : slice_get chosen k ≡ Some true → IsWanted t plan c slack chosen k

-- the first n candidates were tried
pub record AreTried (t : Tree) (plan : Plan) (c : Catalogue) (slack : ℕ) (before chosen : List Bool)
    (n : ℕ) : Type 0 where
  pub held : HoldAll t plan c.guides c.stroke c.bodies chosen
  pub fewer : AreFewer chosen before
  pub wanted : (k : ℕ) → k < n → slice_get chosen k ≡ Some true → IsWanted t plan c slack chosen k

-- of so many none is chosen
abbrev pub none_of : ℕ → List Bool
none_of n = replicate n false

-- the numbers of these bodies are just the chosen ones
pub record AreNamed (chosen : List Bool) (bodies : List FixtureBody) : Type 0 where
  pub each : All (λ b. slice_get chosen b.id ≡ Some true) bodies
  pub every : (k : ℕ) → slice_get chosen k ≡ Some true → Any (λ b. b.id ≡ k) bodies

-- the chosen ones of the first n candidates, as bodies in the order of their numbers
pub record AreFirst (candidates : List Cuboid) (chosen : List Bool) (n : ℕ) (bodies : List FixtureBody) : Type
    0 where
  pub each : All (λ b. IsChosen candidates chosen b.id b.shape) bodies
  pub below : All (λ b. b.id < n) bodies
  pub rising : AllPairs (λ a b. a.id < b.id) bodies
  pub every : (k : ℕ) → k < n → slice_get chosen k ≡ Some true → Any (λ b. b.id ≡ k) bodies

-- the first body that isn't a candidate, None where each is
abbrev pub IsStrangerTold : List Cuboid → List FixtureBody → Option ℕ → Type 0
IsStrangerTold candidates bodies None = All (IsCandidate candidates) bodies
IsStrangerTold candidates bodies (Some k) = IsFirstStranger candidates bodies k

-- a body that a panel touches, None where the plan clears each
abbrev pub IsTouchTold : Tree → Plan → List ℤ → List FixtureBody → ℕ → Option Verified → Type 0
IsTouchTold t plan stroke bodies slack None = All (λ b. IsClearOf t plan stroke (faces b.shape)) bodies
IsTouchTold t plan stroke bodies slack (Some (Touches id panel step m)) =
    Any (λ b. (b.id ≡ id) × IsTouching t plan stroke b.shape slack panel.0 step m) bodies
IsTouchTold t plan stroke bodies slack (Some other) = ⊥

-- the plan clears each chosen candidate
abbrev pub AreChosenClear : Tree → Plan → Catalogue → List Bool → Type 0
AreChosenClear t plan c chosen = (k : ℕ) (b : Cuboid) → IsChosen c.bodies chosen k b
    → IsClearOf t plan c.stroke (faces b)
