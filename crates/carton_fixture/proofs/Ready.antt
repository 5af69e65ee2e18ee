-- A catalogue that fits a plan that does what the task asks is ready to be asked.
use Rattle.std.proofs.Common.{◌≡◌}
use Rattle.carton_text.proofs.PlanMoves.{plan_of_task}
use Rattle.carton_catalogue.specs.declared.catalogue.Catalogue.{Catalogue}
use Rattle.carton_catalogue.specs.CatalogueRules.{IsCatalogue}
use Rattle.carton_catalogue.specs.Fits.{Fits}
use Rattle.carton_text.specs.TaskPlans.{HasMoves}
use Rattle.carton_text.specs.declared.plan.Plan.{Plan}
use Rattle.carton_text.specs.declared.task.Task.{Task}
use Rattle.carton_text.specs.PlanRules.{IsPlan}
use Rattle.carton_text.specs.TaskRules.{IsTask}
use Rattle.carton_text.specs.TaskPlans.{HasMoves}
use Rattle.carton_text.proofs.PlanMoves.{plan_of_task}
use Rattle.carton_tree.specs.Trees.{Tree}
use Rattle.carton_fixture.specs.Steps.{IsReady}

pub ready_of : (t : Tree) (task : Task) (plan : Plan) (c : Catalogue) → IsTask task → IsPlan plan
    → IsCatalogue c → task.creases ≡ t.creases → Fits t task plan c → HasMoves task plan
    → IsReady t plan c task.slack
ready_of t task plan c is_task is_plan is_catalogue creases fits moves = record {
  plan_is = plan_of_task t task plan is_task is_plan creases moves;
  catalogue = is_catalogue;
  fits = fits.guides;
  some = is_task.slack.from;
  narrow = is_task.slack.upto;
}
