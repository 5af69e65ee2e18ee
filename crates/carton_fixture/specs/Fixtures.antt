-- Fixtures for a plan: what a good one promises.
use Rattle.std.specs.Prelude.{◌≡◌, ℕ, List, slice_get, All, Bool, Some, ℤ, pos}
use Rattle.carton_base.specs.declared.bodies.Cuboid.{Cuboid}
use Rattle.carton_base.specs.declared.bodies.Guide.{Guide}
use Rattle.carton_bodies.specs.Boxes.{faces}
use Rattle.carton_catalogue.specs.declared.catalogue.Catalogue.{Catalogue}
use Rattle.carton_check.specs.Sound.{IsSound, KeepsApart}
use Rattle.carton_fixture_text.specs.declared.fixture.Fixture.{Fixture}
use Rattle.carton_fixture_text.specs.FixtureRules.{IsFixture}
use Rattle.carton_guide.specs.Notes.{IsHeld, IsLooseAt}
use Rattle.carton_stroke.specs.Clear.{IsClearOf}
use Rattle.carton_text.specs.declared.plan.Plan.{Plan}
use Rattle.carton_text.specs.declared.task.Task.{Task}
use Rattle.carton_tree.specs.Trees.{Tree}
use Rattle.carton_fixture.specs.declared.answers.UnheldEnd.{UnheldEnd}
use Rattle.carton_fixture.specs.Choices.{IsCandidate, boxes, each_of, each_but}

-- the plan does what the task asks, and keeps panels that share no crease apart throughout
pub record DoesHold (t : Tree) (task : Task) (plan : Plan) : Type 0 where
  pub sound : IsSound t task plan
  pub apart : KeepsApart t plan.states (pos 0)

-- the chosen bodies hold every guide
abbrev pub HoldAll : Tree → Plan → List Guide → List ℤ → List Cuboid → List Bool → Type 0
HoldAll t plan guides stroke bodies chosen = All (λ g. IsHeld t plan.states g stroke bodies chosen) guides

-- at this end of a guide, at this moment of a move of its window, no probe is deeper than the slack in a
-- chosen body
abbrev pub IsUnheld : Tree → Plan → List Guide → List ℤ → List Cuboid → List Bool → ℕ → UnheldEnd → Type 0
IsUnheld t plan guides stroke bodies chosen slack u = (g : Guide) × (slice_get guides u.guide ≡ Some g)
    × IsLooseAt t plan.states g stroke bodies chosen (pos slack) u.end u.step u.moment

-- the fixture moves by the catalogue's stroke, and each of its bodies is the candidate with its number
pub record IsOfCatalogue (c : Catalogue) (f : Fixture) : Type 0 where
  pub stroke : f.stroke ≡ c.stroke
  pub candidates : All (IsCandidate c.bodies) f.bodies

-- the plan clears each body
abbrev pub AreClear : Tree → Plan → Fixture → Type 0
AreClear t plan f = All (λ b. IsClearOf t plan f.stroke (faces b.shape)) f.bodies

-- a good fixture for the plan: the plan holds, its panels clear each body, and together the bodies hold every
-- guide
pub record IsGoodFixture (t : Tree) (task : Task) (plan : Plan) (c : Catalogue) (f : Fixture) : Type 0 where
  pub holds : DoesHold t task plan
  pub rules : IsFixture f
  pub candidates : IsOfCatalogue c f
  pub clear : AreClear t plan f
  pub held : HoldAll t plan c.guides f.stroke (boxes f.bodies) (each_of f.bodies)

-- the body in this place can't be left out: at some end and moment the others hold no probe deeper than the
-- slack
abbrev pub IsNeeded : Tree → Plan → List Guide → Fixture → ℕ → ℕ → Type 0
IsNeeded t plan guides f slack k =
    (u : UnheldEnd) × IsUnheld t plan guides f.stroke (boxes f.bodies) (each_but k f.bodies) slack u
