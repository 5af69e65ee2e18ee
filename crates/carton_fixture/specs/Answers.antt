-- The answers of making a fixture and of verifying one, each with its cause.
use Rattle.std.specs.Prelude.{◌≡◌, ◌≢◌, ℕ, ◌<◌, List, length, map, Any, Bool, true, false, ⊤}
use Rattle.carton_catalogue.specs.declared.catalogue.Catalogue.{Catalogue}
use Rattle.carton_check.specs.declared.checked.Checked.{Checked}
use Rattle.carton_check.specs.declared.checked.Checked.TheVariants.{Holds as PlanHolds}
use Rattle.carton_check.specs.Checks.{IsChecked}
use Rattle.carton_fixture_text.specs.declared.fixture.Fixture.{Fixture}
use Rattle.carton_stroke.specs.declared.note.BodyNote.{BodyNote}
use Rattle.carton_stroke.specs.declared.note.BodyNote.TheVariants.{Clears, Touches as TouchesPanel}
use Rattle.carton_stroke.specs.Notes.{IsTouching, AreNotesOf}
use Rattle.carton_text.specs.declared.plan.Plan.{Plan}
use Rattle.carton_text.specs.declared.task.Task.{Task}
use Rattle.carton_tree.specs.Trees.{Tree}
use Rattle.carton_fixture.specs.declared.answers.Compiled.{Compiled}
use Rattle.carton_fixture.specs.declared.answers.Compiled.TheVariants.{PlanFails, Made, Refused, Memory}
use Rattle.carton_fixture.specs.declared.answers.UnheldEnd.{UnheldEnd}
use Rattle.carton_fixture.specs.declared.answers.Verified.{Verified}
use Rattle.carton_fixture.specs.declared.answers.Verified.TheVariants.{PlanFails as PlanFailsOf, OtherStroke}
use Rattle.carton_fixture.specs.declared.answers.Verified.TheVariants.{NotCandidate, Touches, Unheld, Holds}
use Rattle.carton_fixture.specs.Choices.{IsFirstStranger, boxes, each_of}
use Rattle.carton_fixture.specs.Fixtures.{DoesHold, IsUnheld, IsOfCatalogue, AreClear, IsGoodFixture}
use Rattle.carton_fixture.specs.Fixtures.{IsNeeded}

-- the answer of a check of the plan, and it isn't that the plan holds
pub record IsFailure (t : Tree) (task : Task) (plan : Plan) (answer : Checked) : Type 0 where
  pub told : IsChecked t task plan answer
  pub fails : (moves : ℕ) → answer ≢ PlanHolds moves

-- a body that is noted to clear the plan
abbrev pub clears : BodyNote → Bool
clears Clears = true
clears (TouchesPanel panel step moment) = false

-- those that are noted to clear the plan
abbrev pub clear_ones : List BodyNote → List Bool
clear_ones notes = map clears notes

-- a good fixture of which no body can be left out
pub record IsMade (t : Tree) (task : Task) (plan : Plan) (c : Catalogue) (f : Fixture) : Type 0 where
  pub good : IsGoodFixture t task plan c f
  pub needed : (k : ℕ) → k < length f.bodies → IsNeeded t plan c.guides f task.slack k

-- the candidates that are noted to clear the plan don't hold every guide by probes deeper than the slack
pub record IsRefusal (t : Tree) (task : Task) (plan : Plan) (c : Catalogue) (notes : List BodyNote)
    (u : UnheldEnd) : Type 0 where
  pub holds : DoesHold t task plan
  pub notes_are : AreNotesOf t plan c.stroke c.bodies task.slack notes
  pub unheld : IsUnheld t plan c.guides c.stroke c.bodies (clear_ones notes) task.slack u

-- the answer of making a fixture, with its cause
abbrev pub IsCompiled : Tree → Task → Plan → Catalogue → Compiled → Type 0
IsCompiled t task plan c (PlanFails answer) = IsFailure t task plan answer
IsCompiled t task plan c (Made f) = IsMade t task plan c f
IsCompiled t task plan c (Refused notes u) = IsRefusal t task plan c notes u
IsCompiled t task plan c Memory = ⊤

-- the plan holds, and the fixture is made of the catalogue
abbrev pub IsCandidateFixture : Tree → Task → Plan → Catalogue → Fixture → Type 0
IsCandidateFixture t task plan c f = DoesHold t task plan × IsOfCatalogue c f

-- and the plan clears each of its bodies
abbrev pub IsClearFixture : Tree → Task → Plan → Catalogue → Fixture → Type 0
IsClearFixture t task plan c f = IsCandidateFixture t task plan c f × AreClear t plan f

-- the answer is the first of these that applies, with its cause
abbrev pub IsVerified : Tree → Task → Plan → Catalogue → Fixture → Verified → Type 0
IsVerified t task plan c f (PlanFailsOf answer) = IsFailure t task plan answer
IsVerified t task plan c f OtherStroke = DoesHold t task plan × (f.stroke ≢ c.stroke)
IsVerified t task plan c f (NotCandidate k) = DoesHold t task plan × (f.stroke ≡ c.stroke)
    × IsFirstStranger c.bodies f.bodies k
IsVerified t task plan c f (Touches id panel step m) = IsCandidateFixture t task plan c f
    × Any (λ b. (b.id ≡ id) × IsTouching t plan f.stroke b.shape task.slack panel.0 step m) f.bodies
IsVerified t task plan c f (Unheld u) = IsClearFixture t task plan c f
    × IsUnheld t plan c.guides f.stroke (boxes f.bodies) (each_of f.bodies) task.slack u
IsVerified t task plan c f (Holds count) = IsGoodFixture t task plan c f × (count ≡ length f.bodies)
