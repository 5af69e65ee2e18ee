-- The rule that an error of a step says a file breaks; none where memory was wanted.
use Rattle.std.specs.Prelude.{Option, Some, None}
use Rattle.carton_catalogue.specs.declared.catalogue_error.CatalogueError.{CatalogueError}
use Rattle.carton_catalogue.specs.declared.catalogue_error.CatalogueError.TheVariants.{Memory as NoMemoryForCatalogue}
use Rattle.carton_catalogue.specs.declared.fit_error.FitError.{FitError}
use Rattle.carton_fold.specs.declared.error.FoldError.{FoldError}
use Rattle.carton_fold.specs.declared.error.FoldError.TheVariants.{Memory as NoMemoryForDieline}
use Rattle.carton_panels.specs.declared.error.PanelError.{PanelError}
use Rattle.carton_panels.specs.declared.error.PanelError.TheVariants.{Memory as NoMemoryForPanel}
use Rattle.carton_lines.specs.declared.fault.LineError.{LineError}
use Rattle.carton_lines.specs.declared.fault.LineError.TheVariants.{Memory as NoMemoryForLine}
use Rattle.carton_text.specs.declared.job_error.JobError.{JobError}
use Rattle.carton_text.specs.declared.job_error.JobError.TheVariants.{Memory as NoMemoryForTask}
use Rattle.carton_tree.specs.declared.error.TreeError.{TreeError}
use Rattle.carton_tree.specs.declared.error.TreeError.TheVariants.{Memory as NoMemoryForTree}
use Rattle.carton_setup.specs.declared.refusal.Rule.{Rule}
use Rattle.carton_setup.specs.declared.refusal.Rule.TheVariants.{Fold, Panel, Tree, Line, Fit, Catalogue}
use Rattle.carton_setup.specs.declared.refusal.Rule.TheVariants.{Guides}

abbrev pub fold_rule : FoldError → Option Rule
fold_rule NoMemoryForDieline = None
fold_rule e = Some (Fold e)

abbrev pub panel_rule : PanelError → Option Rule
panel_rule NoMemoryForPanel = None
panel_rule e = Some (Panel e)

abbrev pub tree_rule : TreeError → Option Rule
tree_rule NoMemoryForTree = None
tree_rule e = Some (Tree e)

abbrev pub line_rule : LineError → Option Rule
line_rule NoMemoryForLine = None
line_rule e = Some (Line e)

abbrev pub fit_rule : JobError → Option Rule
fit_rule NoMemoryForTask = None
fit_rule e = Some (Fit e)

abbrev pub catalogue_rule : CatalogueError → Option Rule
catalogue_rule NoMemoryForCatalogue = None
catalogue_rule e = Some (Catalogue e)

abbrev pub guides_rule : FitError → Option Rule
guides_rule e = Some (Guides e)
