-- What `clearance` tells: how far the panels of a carton stay parted in each move of a plan that holds.
use Rattle.std.specs.Prelude.{ℕ, List, ◌++◌, flat_map, length, codes}
use Rattle.carton_base.specs.declared.ids.PanelId.{PanelId}
use Rattle.carton_base.specs.declared.moments.Moment.{Moment}
use Rattle.carton_report.specs.Clearances.{IsCleared}
use Rattle.carton_report.specs.declared.cleared.Cleared.TheVariants.{Rows as AllRows, Fails as Failed}
use Rattle.carton_report.specs.declared.cleared.Row.{Row}
use Rattle.carton_report.specs.declared.cleared.Row.TheVariants.{Wide, Tight}
use Rattle.carton_setup.specs.Checks.{checked_text}
use Rattle.carton_setup.specs.Outcomes.{Outcomes, ◌>>=◌, gives, values}
use Rattle.carton_setup.specs.Printed.{line, spaced, moment_text}
use Rattle.carton_setup.specs.Proposals.{proposals}
use Rattle.carton_setup.specs.Telling.{done, denied}
use Rattle.carton_setup.specs.declared.proposal.Proposal.{Proposal}
use Rattle.carton_setup.specs.declared.told.Told.{Told}
use Rattle.carton_plan_commands.specs.Check.{IsSoundProposal}
use Rattle.carton_plan_commands.specs.declared.clearance.Report.{Report}
use Rattle.carton_plan_commands.specs.declared.clearance.Report.TheVariants.{Rows, Fails}

-- the two panels that come nearest in a move, how near, and when
abbrev pub tight_text : ℕ → ℕ → PanelId → PanelId → Moment → List ℕ
tight_text step clear a b m =
    codes "move" ++ spaced step
    ++ (codes " clear" ++ spaced clear
    ++ (codes " panels" ++ spaced a.0 ++ (spaced b.0 ++ (codes " moment " ++ moment_text m))))

-- the line of a move
abbrev pub row_line : Row → List ℕ
row_line (Wide step) = codes "move" ++ (spaced step ++ line (codes " wide"))
row_line (Tight step clear a b m) = line (tight_text step clear a b m)

-- the number of moves, and a line for each
abbrev pub rows_text : List Row → List ℕ
rows_text rows = line (codes "clearance" ++ spaced (length rows)) ++ flat_map row_line rows

-- what is told: the rows, or what the check says of a plan that doesn't hold
abbrev pub told_report : ℕ → Report → Told
told_report stride (Rows rows) = done (rows_text rows)
told_report stride (Fails checked) = denied (line (checked_text stride checked))

-- the report on a plan for a carton and a task: the rows of a sound plan, or why it doesn't hold
abbrev pub IsReport : Proposal → Report → Type 0
IsReport p (Rows rows) = IsCleared p.setup.carton p.setup.task p.plan (AllRows rows) × IsSoundProposal p
IsReport p (Fails checked) = IsCleared p.setup.carton p.setup.task p.plan (Failed checked)

-- what `clearance` may tell for the bytes of its files
abbrev pub tells_clearance : List (List ℕ) → Outcomes Told
tells_clearance files = do
  p ← proposals files
  report ← values (IsReport p)
  gives (told_report p.setup.task.stride report)
