-- The bodies that are left are a good fixture, of which none can be left out.
use Rattle.std.proofs.Common.{◌≡◌, ℕ, ◌<◌, pos, Bool, false, List, length, get_or, slice_set, All, refl}
use Rattle.std.proofs.Common.{arith}
use Rattle.carton_catalogue.specs.declared.catalogue.Catalogue.{Catalogue}
use Rattle.carton_catalogue.specs.CatalogueRules.{IsBody}
use Rattle.carton_fixture_text.specs.declared.fixture.Fixture.{Fixture}
use Rattle.carton_fixture_text.specs.declared.fixture.FixtureBody.{FixtureBody}
use Rattle.carton_fixture_text.specs.FixtureRules.{IsFixtureBody}
use Rattle.carton_text.specs.declared.plan.Plan.{Plan}
use Rattle.carton_text.specs.declared.task.Task.{Task}
use Rattle.carton_text.proofs.PlanMoves.{at_place}
use Rattle.carton_tree.specs.Trees.{Tree}
use Rattle.carton_fixture.specs.Answers.{IsMade}
use Rattle.carton_fixture.specs.Choices.{boxes, each_of, each_but}
use Rattle.carton_fixture.specs.Fixtures.{DoesHold, IsNeeded}
use Rattle.carton_fixture.specs.Steps.{IsReady, AreChosenClear, AreTried, AreFirst}
use Rattle.carton_fixture.proofs.Among.{hold_all_by_more, unheld_in_fewer}
use Rattle.carton_fixture.proofs.Chosen.{AreChosen, of_first, among_bodies, among_others}

-- the fixture of the catalogue's stroke and these bodies
abbrev pub fixture_with : Catalogue → List FixtureBody → Fixture
fixture_with c bodies = record { stroke = c.stroke; bodies = bodies }

pub made_is : (t : Tree) (task : Task) (plan : Plan) (c : Catalogue) (before after : List Bool)
    (bodies : List FixtureBody) → IsReady t plan c task.slack → DoesHold t task plan
    → length after ≡ length c.bodies
    → AreChosenClear t plan c before → AreTried t plan c task.slack before after (length after)
    → AreFirst c.bodies after (length c.bodies) bodies → IsMade t task plan c (fixture_with c bodies)
made_is t task plan c before after bodies ready holds same clear tried first =
    let chosen = of_first c.bodies after bodies same first in
    record {
      good = record {
        holds = holds;
        rules = record { stroke = ready.catalogue.stroke; each = bodies_are; rising = first.rising };
        candidates = record { stroke = refl; candidates = λ k d lt. (first.each k d lt).at };
        clear = λ k d lt. let is = first.each k d lt in
            clear _ _ (record { at = is.at; marked = tried.fewer _ is.marked });
        held = hold_all_by_more t plan c.guides c.stroke c.bodies after (boxes bodies) (each_of bodies)
            (among_bodies c.bodies after bodies chosen) tried.held;
      };
      needed = needed chosen;
    }
  where
    bodies_are : All IsFixtureBody bodies
    bodies_are k d lt =
        let is = first.each k d lt in
        let below = first.below k d lt in
        let few = ready.catalogue.bodies.few in
        record {
          id = omega (arith, below, few);
          shape = at_place IsBody c.bodies (get_or bodies k d).id (get_or bodies k d).shape
              ready.catalogue.bodies.each is.at;
        }

    needed : AreChosen c.bodies after bodies → (k : ℕ) → k < length bodies
        → IsNeeded t plan c.guides (fixture_with c bodies) task.slack k
    needed chosen k lt =
        let d : FixtureBody = record {
          id = 0;
          shape = record { x0 = pos 0; x1 = pos 0; y0 = pos 0; y1 = pos 0; z0 = pos 0; z1 = pos 0 };
        } in
        let is = first.each k d lt in
        let id = (get_or bodies k d).id in
        let below = first.below k d lt in
        let want = tried.wanted id (omega (arith, below, same)) is.marked in (
          want.0,
          unheld_in_fewer t plan c.guides c.stroke (boxes bodies) (each_but k bodies) c.bodies
              (slice_set after id false) task.slack want.0 (among_others c.bodies after bodies k d lt chosen)
              want.1,
        )
