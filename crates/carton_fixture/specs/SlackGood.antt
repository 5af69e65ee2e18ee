-- Where a fixture has to be made, or has to be found good: all that is asked holds by more than the slack.
use Rattle.std.specs.Prelude.{ℕ, Bool, List, All, ⊤, pos, ◌*ℤ◌}
use Rattle.carton_base.specs.declared.bodies.Cuboid.{Cuboid}
use Rattle.carton_bodies.specs.Boxes.{faces}
use Rattle.carton_catalogue.specs.declared.catalogue.Catalogue.{Catalogue}
use Rattle.carton_check.specs.Sound.{KeepsApart}
use Rattle.carton_fixture_text.specs.declared.fixture.Fixture.{Fixture}
use Rattle.carton_guide.specs.Holding.{IsChosen}
use Rattle.carton_guide.specs.Notes.{IsWellHeld}
use Rattle.carton_stroke.specs.Clear.{IsSlackClearOf}
use Rattle.carton_text.specs.declared.plan.Plan.{Plan}
use Rattle.carton_text.specs.declared.task.Task.{Task}
use Rattle.carton_text.specs.TaskPlans.{HasMoves}
use Rattle.carton_tree.specs.Trees.{Tree}
use Rattle.carton_fixture.specs.declared.answers.Compiled.{Compiled}
use Rattle.carton_fixture.specs.declared.answers.Compiled.TheVariants.{PlanFails, Made, Refused, Memory}
use Rattle.carton_fixture.specs.Choices.{boxes, each_of}
use Rattle.carton_fixture.specs.Fixtures.{IsOfCatalogue}

-- the plan does what the task asks, and keeps panels that share no crease apart by more than the slack
pub record IsSlackPlan (t : Tree) (task : Task) (plan : Plan) : Type 0 where
  pub moves : HasMoves task plan
  pub apart : KeepsApart t plan.states (pos 2 *ℤ pos task.slack)

-- the plan clears each chosen candidate by more than the slack
abbrev pub AreWellClear : Tree → Task → Plan → Catalogue → List Bool → Type 0
AreWellClear t task plan c chosen = (k : ℕ) (b : Cuboid) → IsChosen c.bodies chosen k b
    → IsSlackClearOf t plan c.stroke (faces b) task.slack

-- candidates that the plan clears by more than the slack hold every guide by more than the slack
pub record IsSlackGood (t : Tree) (task : Task) (plan : Plan) (c : Catalogue) : Type 0 where
  pub plan_is : IsSlackPlan t task plan
  pub chosen : List Bool
  pub clear : AreWellClear t task plan c chosen
  pub held : All (λ g. IsWellHeld t plan.states g c.stroke c.bodies chosen (pos task.slack)) c.guides

-- the plan clears the bodies of the fixture by more than the slack, and they hold every guide by more than
-- the slack
pub record IsSlackGoodFixture (t : Tree) (task : Task) (plan : Plan) (c : Catalogue) (f : Fixture) : Type 0
  where
    pub plan_is : IsSlackPlan t task plan
    pub candidates : IsOfCatalogue c f
    pub clear : All (λ b. IsSlackClearOf t plan f.stroke (faces b.shape) task.slack) f.bodies
    pub held : All (λ g. IsWellHeld t plan.states g f.stroke (boxes f.bodies) (each_of f.bodies)
        (pos task.slack)) c.guides

-- a fixture was made
abbrev pub IsMadeAnswer : Compiled → Type 0
IsMadeAnswer (PlanFails answer) = ⊥
IsMadeAnswer (Made f) = ⊤
IsMadeAnswer (Refused notes u) = ⊥
IsMadeAnswer Memory = ⊥
