-- What the commands that read a catalogue begin with: the carton, the task, the plan and the catalogue, or
-- the first file that is refused.
use Rattle.std.specs.Prelude.{ℕ, List}
use Rattle.carton_catalogue.specs.CatalogueRules.{IsCatalogue}
use Rattle.carton_catalogue.specs.Catalogues.{catalogue_of}
use Rattle.carton_catalogue.specs.Fits.{Fits, IsFit}
use Rattle.carton_catalogue.specs.declared.catalogue.Catalogue.{Catalogue}
use Rattle.carton_catalogue.specs.declared.catalogue_error.CatalogueError.TheVariants.{Memory}
use Rattle.carton_text.specs.PlanRules.{IsPlan}
use Rattle.carton_text.specs.declared.plan.Plan.{Plan}
use Rattle.carton_words.specs.declared.kinds.FileKind.TheVariants.{Catalogue as CatalogueFile}
use Rattle.carton_setup.specs.Files.{file_at}
use Rattle.carton_setup.specs.Outcomes.{Outcomes, ◌>>=◌, gives, results, reads}
use Rattle.carton_setup.specs.Rules.{catalogue_rule, guides_rule}
use Rattle.carton_setup.specs.Proposals.{proposals}
use Rattle.carton_setup.specs.Setups.{IsRight}
use Rattle.carton_setup.specs.declared.setup.Setup.{Setup}
use Rattle.carton_setup.specs.declared.supply.Supply.{Supply}

-- the catalogue of the fourth file
abbrev pub catalogues : List (List ℕ) → Outcomes Catalogue
catalogues files = reads CatalogueFile catalogue_rule Memory (λ c. c) (catalogue_of (file_at 3 files))

-- all of them, where the catalogue fits
abbrev pub fitted : Setup → Plan → Catalogue → Outcomes Supply
fitted s p c = do
  fits ← results {X = Unit {0}} CatalogueFile guides_rule (IsFit s.carton s.task p c)
  gives (record { setup = s; plan = p; catalogue = c })

-- the carton, the task, the plan and the catalogue for the bytes of the files: after those of a proposal,
-- faults are
-- looked for in the text of the catalogue and in its fit
abbrev pub supplies : List (List ℕ) → Outcomes Supply
supplies files = do
  p ← proposals files
  c ← catalogues files
  fitted p.setup p.plan c

-- they keep their rules, and the catalogue fits
pub record IsFitted (s : Supply) : Type 0 where
  pub right : IsRight s.setup
  pub plan : IsPlan s.plan
  pub catalogue : IsCatalogue s.catalogue
  pub fits : Fits s.setup.carton s.setup.task s.plan s.catalogue
