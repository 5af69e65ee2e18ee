-- The text of each refusal of a file.
use Rattle.std.specs.Prelude.{ℕ, List, ◌++◌, codes}
use Rattle.carton_catalogue.specs.declared.catalogue_error.CatalogueError.{CatalogueError}
use Rattle.carton_catalogue.specs.declared.catalogue_error.CatalogueError.TheVariants.{Line as CatalogueLine}
use Rattle.carton_catalogue.specs.declared.catalogue_error.CatalogueError.TheVariants.{NoGuide}
use Rattle.carton_catalogue.specs.declared.catalogue_error.CatalogueError.TheVariants.{Memory as NoMemoryForCatalogue}
use Rattle.carton_catalogue.specs.declared.fit_error.FitError.{FitError}
use Rattle.carton_catalogue.specs.declared.fit_error.FitError.TheVariants.{OtherCreases}
use Rattle.carton_catalogue.specs.declared.fit_error.FitError.TheVariants.{NotAJoint as NoJointOfGuide}
use Rattle.carton_catalogue.specs.declared.fit_error.FitError.TheVariants.{BadWindow, BandTooWide}
use Rattle.carton_catalogue.specs.declared.fit_error.FitError.TheVariants.{ProbeOutside}
use Rattle.carton_fold.specs.Values.{name_of}
use Rattle.carton_fold.specs.declared.error.FoldError.{FoldError}
use Rattle.carton_fold.specs.declared.error.FoldError.TheVariants.{NotJson, NotObject, Missing, BadShape}
use Rattle.carton_fold.specs.declared.error.FoldError.TheVariants.{TooMany, NotWhole, TooFar, NotFlat}
use Rattle.carton_fold.specs.declared.error.FoldError.TheVariants.{BadVertex, BadLetter, JoinEdge, Memory}
use Rattle.carton_panels.specs.declared.error.PanelError.{PanelError}
use Rattle.carton_panels.specs.declared.error.PanelError.TheVariants.{RepeatedVertex, NotConvex, TooThin}
use Rattle.carton_panels.specs.declared.error.PanelError.TheVariants.{Memory as NoMemoryForPanel}
use Rattle.carton_lines.specs.declared.fault.LineError.{LineError}
use Rattle.carton_lines.specs.declared.fault.LineError.TheVariants.{BadLine, Range, Duplicate, NoEnd}
use Rattle.carton_lines.specs.declared.fault.LineError.TheVariants.{Memory as NoMemoryForLine}
use Rattle.carton_text.specs.declared.job_error.JobError.{JobError}
use Rattle.carton_text.specs.declared.job_error.JobError.TheVariants.{NotAJoint, LockedEdge, NoAngles}
use Rattle.carton_text.specs.declared.job_error.JobError.TheVariants.{AngleNotExact, EmptyTeam, TooManyTeams}
use Rattle.carton_text.specs.declared.job_error.JobError.TheVariants.{Memory as NoMemoryForTask}
use Rattle.carton_tree.specs.declared.error.TreeError.{TreeError}
use Rattle.carton_tree.specs.declared.error.TreeError.TheVariants.{Panel as NoPanel, SideNoEdge, ThreeFaces}
use Rattle.carton_tree.specs.declared.error.TreeError.TheVariants.{SameSide, Slanted, Loop, NoRoot, Apart}
use Rattle.carton_tree.specs.declared.error.TreeError.TheVariants.{TooDeep, Memory as NoMemoryForTree}
use Rattle.carton_words.specs.Kinds.{kind_text}
use Rattle.carton_setup.specs.Printed.{line, spaced}
use Rattle.carton_setup.specs.declared.refusal.Rule.{Rule}
use Rattle.carton_setup.specs.declared.refusal.Rule.TheVariants.{TooLong, Fold, Panel, Tree, Line, Fit}
use Rattle.carton_setup.specs.declared.refusal.Rule.TheVariants.{Catalogue as CatalogueRule, Guides}
use Rattle.carton_setup.specs.declared.refusal.BadFile.{BadFile}

-- the rule of a dieline's text that fails; want of memory is never printed
abbrev pub fold_text : FoldError → List ℕ
fold_text NotJson = codes "not json"
fold_text NotObject = codes "not an object"
fold_text (Missing key) = codes "missing " ++ name_of key
fold_text (BadShape key) = codes "bad shape " ++ name_of key
fold_text (TooMany key) = codes "too many " ++ name_of key
fold_text (NotWhole key place) = codes "not whole " ++ name_of key ++ spaced place
fold_text (TooFar vertex) = codes "too far vertex" ++ spaced vertex
fold_text (NotFlat vertex) = codes "not flat vertex" ++ spaced vertex
fold_text (BadVertex key place) = codes "bad vertex " ++ name_of key ++ spaced place
fold_text (BadLetter edge) = codes "bad letter edge" ++ spaced edge
fold_text (JoinEdge edge) = codes "join edge" ++ spaced edge
fold_text Memory = codes "out of memory"

-- why a face is no panel; want of memory is never printed
abbrev pub panel_text : PanelError → List ℕ
panel_text (RepeatedVertex panel) = codes "repeated vertex panel" ++ spaced panel.0
panel_text (NotConvex panel) = codes "not convex panel" ++ spaced panel.0
panel_text (TooThin panel) = codes "too thin panel" ++ spaced panel.0
panel_text NoMemoryForPanel = codes "out of memory"

-- why the panels of a dieline are no carton; want of memory is never printed
abbrev pub tree_text : TreeError → List ℕ
tree_text (NoPanel e) = panel_text e
tree_text (SideNoEdge panel side) = codes "no edge panel" ++ spaced panel.0 ++ (codes " side" ++ spaced side)
tree_text (ThreeFaces edge) = codes "three panels edge" ++ spaced edge.0
tree_text (SameSide edge) = codes "same side edge" ++ spaced edge.0
tree_text (Slanted edge) = codes "slanted edge" ++ spaced edge.0
tree_text (Loop edge) = codes "loop edge" ++ spaced edge.0
tree_text (NoRoot root) = codes "no root" ++ spaced root
tree_text (Apart panel) = codes "apart panel" ++ spaced panel.0
tree_text (TooDeep panel) = codes "too deep panel" ++ spaced panel.0
tree_text NoMemoryForTree = codes "out of memory"

-- the first fault of a text of lines; want of memory is never printed
abbrev pub line_text : LineError → List ℕ
line_text (BadLine number) = codes "bad line" ++ spaced number
line_text (Range number) = codes "range line" ++ spaced number
line_text (Duplicate number) = codes "duplicate line" ++ spaced number
line_text NoEnd = codes "no end"
line_text NoMemoryForLine = codes "out of memory"

-- why a job doesn't fit a carton; want of memory is never printed
abbrev pub fit_text : JobError → List ℕ
fit_text (NotAJoint edge) = codes "not a joint edge" ++ spaced edge.0
fit_text (LockedEdge edge) = codes "locked edge" ++ spaced edge.0
fit_text NoAngles = codes "no angles"
fit_text (AngleNotExact edge) = codes "angle not exact edge" ++ spaced edge.0
fit_text (EmptyTeam number) = codes "empty team line" ++ spaced number
fit_text (TooManyTeams count) = codes "too many teams" ++ spaced count
fit_text NoMemoryForTask = codes "out of memory"

-- the first fault of a catalogue's text; want of memory is never printed
abbrev pub catalogue_text : CatalogueError → List ℕ
catalogue_text (CatalogueLine e) = line_text e
catalogue_text NoGuide = codes "no guide"
catalogue_text NoMemoryForCatalogue = codes "out of memory"

-- why a catalogue doesn't fit a carton, its task and a plan
abbrev pub guides_text : FitError → List ℕ
guides_text OtherCreases = codes "other creases"
guides_text (NoJointOfGuide guide) = codes "not a joint guide" ++ spaced guide
guides_text (BadWindow guide) = codes "bad window guide" ++ spaced guide
guides_text (BandTooWide guide) = codes "band too wide guide" ++ spaced guide
guides_text (ProbeOutside guide probe) =
    codes "probe outside guide" ++ spaced guide ++ (codes " probe" ++ spaced probe)

-- the rule that a file breaks
abbrev pub rule_text : Rule → List ℕ
rule_text TooLong = codes "too long"
rule_text (Fold e) = fold_text e
rule_text (Panel e) = panel_text e
rule_text (Tree e) = tree_text e
rule_text (Line e) = line_text e
rule_text (Fit e) = fit_text e
rule_text (CatalogueRule e) = catalogue_text e
rule_text (Guides e) = guides_text e

-- what is printed of a file that is refused
abbrev pub refusal_text : BadFile → List ℕ
refusal_text bad = line (codes "bad " ++ kind_text bad.kind ++ codes ": " ++ rule_text bad.rule)
