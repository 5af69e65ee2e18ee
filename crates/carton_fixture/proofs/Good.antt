-- What is told of the candidates that the bodies of a fixture are is told of the fixture.
use Rattle.std.proofs.Common.{ℕ, ℤ, Bool, List, sym, subst}
use Rattle.carton_catalogue.specs.declared.catalogue.Catalogue.{Catalogue}
use Rattle.carton_fixture_text.specs.declared.fixture.Fixture.{Fixture}
use Rattle.carton_fixture_text.specs.FixtureRules.{IsFixture}
use Rattle.carton_text.specs.declared.plan.Plan.{Plan}
use Rattle.carton_text.specs.declared.task.Task.{Task}
use Rattle.carton_tree.specs.Trees.{Tree}
use Rattle.carton_fixture.specs.declared.answers.UnheldEnd.{UnheldEnd}
use Rattle.carton_fixture.specs.Answers.{IsClearFixture}
use Rattle.carton_fixture.specs.Choices.{boxes, each_of}
use Rattle.carton_fixture.specs.Fixtures.{HoldAll, IsUnheld, IsOfCatalogue, IsGoodFixture}
use Rattle.carton_fixture.specs.Steps.{AreNamed}
use Rattle.carton_fixture.proofs.Among.{hold_all_by_more, unheld_in_fewer}
use Rattle.carton_fixture.proofs.Chosen.{AreChosen, of_named, among_bodies, among_candidates}

chosen_are : (c : Catalogue) (f : Fixture) (chosen : List Bool) → IsFixture f → IsOfCatalogue c f
    → AreNamed chosen f.bodies → AreChosen c.bodies chosen f.bodies
chosen_are c f chosen rules of_it named =
    of_named c.bodies chosen f.bodies of_it.candidates rules.rising named

pub unheld_of_bodies : (t : Tree) (slack : ℕ) (plan : Plan) (c : Catalogue) (f : Fixture) (chosen : List Bool)
    (u : UnheldEnd) → IsFixture f → IsOfCatalogue c f → AreNamed chosen f.bodies
    → IsUnheld t plan c.guides c.stroke c.bodies chosen slack u
    → IsUnheld t plan c.guides f.stroke (boxes f.bodies) (each_of f.bodies) slack u
unheld_of_bodies t slack plan c f chosen u rules of_it named h =
    let among = among_candidates c.bodies chosen f.bodies (chosen_are c f chosen rules of_it named) in
    subst (λ (stroke : List ℤ). IsUnheld t plan c.guides stroke (boxes f.bodies) (each_of f.bodies) slack u)
    (sym of_it.stroke) (unheld_in_fewer t plan c.guides c.stroke (boxes f.bodies) (each_of f.bodies)
    c.bodies chosen slack u among h)

pub good_of_bodies : (t : Tree) (task : Task) (plan : Plan) (c : Catalogue) (f : Fixture) (chosen : List Bool)
    → IsFixture f → IsClearFixture t task plan c f → AreNamed chosen f.bodies
    → HoldAll t plan c.guides c.stroke c.bodies chosen → IsGoodFixture t task plan c f
good_of_bodies t task plan c f chosen rules clear named h =
    let of_it = clear.0.1 in
    let among = among_bodies c.bodies chosen f.bodies (chosen_are c f chosen rules of_it named) in
    record {
      holds = clear.0.0;
      rules = rules;
      candidates = of_it;
      clear = clear.1;
      held = subst (λ (stroke : List ℤ). HoldAll t plan c.guides stroke (boxes f.bodies) (each_of f.bodies))
          (sym of_it.stroke) (hold_all_by_more t plan c.guides c.stroke c.bodies chosen (boxes f.bodies)
          (each_of f.bodies) among h);
    }
