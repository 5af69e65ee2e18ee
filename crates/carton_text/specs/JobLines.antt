-- The lines of a job, each by itself.
use Rattle.std.specs.Prelude.{ℕ, ◌*◌, ℤ, List, [], ◌∷◌, length, nat_eq, nat_lt, bytes_eq, if◌then◌else◌}
use Rattle.std.specs.Prelude.{Option, Some, None, ok_or, Result, Ok, Err, codes}
use Rattle.carton_base.specs.declared.limits.TheConstants.{MOST_TURNS, WIDEST_MARGIN, WIDEST_SLACK}
use Rattle.carton_base.specs.declared.ids.EdgeId.{EdgeId}
use Rattle.carton_lines.specs.declared.fault.Fault.{Fault}
use Rattle.carton_lines.specs.declared.fault.Fault.TheVariants.{BadLine, Range}
use Rattle.carton_text.specs.declared.grid.Grid.{Grid}
use Rattle.carton_text.specs.declared.job.Setting.{Setting}
use Rattle.carton_text.specs.declared.job_line.TheConstants.{LAST_EDGE, MOST_MEMBERS}
use Rattle.carton_text.specs.declared.job_line.Keyword.{Keyword}
use Rattle.carton_text.specs.declared.job_line.Keyword.TheVariants.{Root, Margin, Slack, Turns, Start, Target}
use Rattle.carton_text.specs.declared.job_line.Keyword.TheVariants.{Team}
use Rattle.carton_text.specs.declared.job_line.JobLine.{JobLine}
use Rattle.carton_text.specs.declared.job_line.JobLine.TheVariants.{Root as RootLine, Margin as MarginLine}
use Rattle.carton_text.specs.declared.job_line.JobLine.TheVariants.{Slack as SlackLine, Turns as TurnsLine}
use Rattle.carton_text.specs.declared.job_line.JobLine.TheVariants.{TargetsFold, Start as StartLine}
use Rattle.carton_text.specs.declared.job_line.JobLine.TheVariants.{Target as TargetLine, Team as TeamLine}
use Rattle.carton_base.specs.Steps.{◌>>=◌, refuse_if, entries_from}
use Rattle.carton_lines.specs.Numbers.{numbers_in, from_to, at_most}
use Rattle.carton_text.specs.Grids.{stops_of}
use Rattle.carton_lines.specs.Lines.{words_of}

-- one number alone
abbrev pub one : List ℤ → Result ℤ Fault
one (z ∷ []) = Ok z
one _ = Err BadLine

-- two numbers alone
abbrev pub two : List ℤ → Result (ℤ × ℤ) Fault
two (y ∷ z ∷ []) = Ok (y, z)
two _ = Err BadLine

-- the edge of a number
abbrev pub edge_in : ℤ → Result EdgeId Fault
edge_in z = from_to 0 LAST_EDGE z >>= λ e. Ok (record { 0 = e })

-- an edge and a stop on the grid
unfoldable pub setting_in : Grid → List ℤ → Result Setting Fault
setting_in grid zs = do
  p ← two zs
  edge ← edge_in p.0
  stop ← at_most (2 * stops_of grid) p.1
  Ok (record { edge = edge; stop = record { 0 = stop } })

-- the edges of a team
unfoldable pub team_in : List ℤ → Result (List EdgeId) Fault
team_in zs = do
  fine ← refuse_if (nat_eq (length zs) 0) BadLine
  fine ← refuse_if (nat_lt MOST_MEMBERS (length zs)) Range
  entries_from (λ i. edge_in) 0 zs

-- the first word of a line with numbers
unfoldable pub keyword_in : List ℕ → Option Keyword
keyword_in word =
    if bytes_eq word (codes "root") then Some Root else (
    if bytes_eq word (codes "margin") then Some Margin else (
    if bytes_eq word (codes "slack") then Some Slack else (
    if bytes_eq word (codes "turns") then Some Turns else (
    if bytes_eq word (codes "start") then Some Start else (
    if bytes_eq word (codes "target") then Some Target else (
    if bytes_eq word (codes "team") then Some Team else None))))))

-- the line of a word and its numbers
unfoldable pub numbered : Grid → Keyword → List ℤ → Result JobLine Fault
numbered grid Root zs = one zs >>= from_to 0 255 >>= λ n. Ok (RootLine n)
numbered grid Margin zs = one zs >>= from_to 0 WIDEST_MARGIN >>= λ n. Ok (MarginLine n)
numbered grid Slack zs = one zs >>= from_to 1 WIDEST_SLACK >>= λ n. Ok (SlackLine n)
numbered grid Turns zs = one zs >>= from_to 1 MOST_TURNS >>= λ n. Ok (TurnsLine n)
numbered grid Start zs = setting_in grid zs >>= λ s. Ok (StartLine s)
numbered grid Target zs = setting_in grid zs >>= λ s. Ok (TargetLine s)
numbered grid Team zs = team_in zs >>= λ edges. Ok (TeamLine edges)

-- the line of some words
unfoldable pub worded : Grid → List (List ℕ) → Result JobLine Fault
worded grid [] = Err BadLine
worded grid (word ∷ words) = do
  keyword ← ok_or (keyword_in word) BadLine
  numbers ← numbers_in words
  numbered grid keyword numbers

-- a line between the first and the last
unfoldable pub line_in : Grid → List ℕ → Result JobLine Fault
line_in grid line = if bytes_eq line (codes "targets fold") then Ok TargetsFold else worded grid
    (words_of line)
