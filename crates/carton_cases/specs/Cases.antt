-- What tests are set up with.
use Rattle.std.specs.Prelude.{◌≡◌}
use Rattle.carton_cases.specs.declared.setting_up.Case.{Case}
use Rattle.carton_cases.specs.declared.setting_up.Files.{Files}
use Rattle.carton_cases.specs.declared.setting_up.Setup.{Setup}
use Rattle.carton_catalogue.specs.CatalogueRules.{IsCatalogue}
use Rattle.carton_catalogue.specs.Fits.{Fits}
use Rattle.carton_model.specs.Dielines.{IsDieline}
use Rattle.carton_text.specs.JobRules.{IsJob}
use Rattle.carton_text.specs.PlanRules.{IsPlan}
use Rattle.carton_text.specs.TaskRules.{IsTask}

-- a dieline and a job that keep their rules
pub record AreFiles (f : Files) : Type 0 where
  pub dieline : IsDieline f.dieline
  pub job : IsJob f.job

-- a task, of the creases of the carton
pub record IsCase (c : Case) : Type 0 where
  pub task : IsTask c.task
  pub creases : c.task.creases ≡ c.carton.creases

-- a task and a plan of the carton, and a catalogue that fits them
pub record IsSetup (s : Setup) : Type 0 where
  pub task_is : IsTask s.task
  pub plan_is : IsPlan s.plan
  pub catalogue : IsCatalogue s.catalogue
  pub creases : s.task.creases ≡ s.carton.creases
  pub fits : Fits s.carton s.task s.plan s.catalogue
