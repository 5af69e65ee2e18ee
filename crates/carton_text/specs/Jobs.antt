-- The job of a text, or the first rule that fails.
use Rattle.std.specs.Prelude.{ℕ, ℤ, pos, ◌++◌, List, [], ◌∷◌, length, nat_eq, nat_le, bytes_eq, Bool, true}
use Rattle.std.specs.Prelude.{false, if◌then◌else◌, Option, Some, None, unwrap_or, ok_or, Result, Ok, Err}
use Rattle.std.specs.Prelude.{codes}
use Rattle.std.specs.List.{list_any}
use Rattle.std.specs.Ordering.{int_eq}
use Rattle.carton_base.specs.declared.limits.TheConstants.{MOST_TEAMS, MOST_TURNS, WIDEST_STEP}
use Rattle.carton_base.specs.declared.ids.EdgeId.{EdgeId}
use Rattle.carton_lines.specs.declared.fault.Fault.{Fault}
use Rattle.carton_lines.specs.declared.fault.Fault.TheVariants.{BadLine, Range, Duplicate}
use Rattle.carton_lines.specs.declared.fault.LineError.{LineError}
use Rattle.carton_text.specs.declared.grid.Grid.{Grid}
use Rattle.carton_text.specs.declared.grid.Grid.TheVariants.{Eight, Sixteen}
use Rattle.carton_text.specs.declared.job.Job.{Job}
use Rattle.carton_text.specs.declared.job.Setting.{Setting}
use Rattle.carton_text.specs.declared.job_line.JobLine.{JobLine}
use Rattle.carton_text.specs.declared.job_line.JobLine.TheVariants.{Root, Margin, Slack, Turns, TargetsFold}
use Rattle.carton_text.specs.declared.job_line.JobLine.TheVariants.{Start, Target, Team}
use Rattle.carton_text.specs.declared.draft.Draft.{Draft}
use Rattle.carton_base.specs.Steps.{◌>>=◌, refuse_if}
use Rattle.carton_text.specs.Grids.{stops_of}
use Rattle.carton_lines.specs.Numbers.{numbers_in, from_to}
use Rattle.carton_lines.specs.Lines.{words_of, after}
use Rattle.carton_lines.specs.Grammars.{Grammar}
use Rattle.carton_lines.specs.Readings.{freely_read}
use Rattle.carton_text.specs.JobLines.{two, line_in}

-- a job of which no line has told anything yet
abbrev pub new_draft : Grid → ℕ → Draft
new_draft grid stride = record {
  grid = grid;
  stride = stride;
  root = None;
  margin = None;
  slack = None;
  turns = None;
  from_file = false;
  starts = [];
  targets = [];
  teams = [];
  named = [];
}

-- a value that no earlier line told
abbrev pub once : {A : Type 0} → Option A → A → Result (Option A) Fault
once None x = Ok (Some x)
once (Some y) x = Err Duplicate

-- the two are one edge
abbrev pub is_same : EdgeId → EdgeId → Bool
is_same d e = nat_eq d.0 e.0

-- the settings with one more, of an edge that none of them sets
unfoldable pub set_once : List Setting → Setting → Result (List Setting) Fault
set_once settings s = if list_any (λ t. is_same t.edge s.edge) settings then Err Duplicate else Ok
    (settings ++ s ∷ [])

-- the edges named so far with those of one more line, each of which is new
unfoldable pub name_each : List EdgeId → List EdgeId → Result (List EdgeId) Fault
name_each named [] = Ok named
name_each named (e ∷ es) = if list_any (λ d. is_same d e) named then Err Duplicate else name_each
    (named ++ e ∷ []) es

-- one more team, told in line n
unfoldable pub add_team : Draft → ℕ → List EdgeId → Result Draft Fault
add_team d n edges = do
  fine ← refuse_if (nat_le MOST_TEAMS (length d.teams)) Range
  named ← name_each d.named edges
  Ok (record d { named = named; teams = d.teams ++ (record { line = n; edges = edges }) ∷ [] })

-- what line n adds to what the earlier lines told
unfoldable pub add : Draft → ℕ → JobLine → Result Draft Fault
add d n (Root panel) = once d.root panel >>= λ x. Ok (record d { root = x })
add d n (Margin margin) = once d.margin margin >>= λ x. Ok (record d { margin = x })
add d n (Slack slack) = once d.slack slack >>= λ x. Ok (record d { slack = x })
add d n (Turns turns) = once d.turns turns >>= λ x. Ok (record d { turns = x })
add d n TargetsFold = if d.from_file then Err Duplicate else Ok (record d { from_file = true })
add d n (Start s) = set_once d.starts s >>= λ xs. Ok (record d { starts = xs })
add d n (Target s) = set_once d.targets s >>= λ xs. Ok (record d { targets = xs })
add d n (Team edges) = add_team d n edges

-- the grid with that number of stops in a right angle
abbrev pub grid_in : ℤ → Result Grid Fault
grid_in z = if int_eq z (pos 8) then Ok Eight else (if int_eq z (pos 16) then Ok Sixteen else Err Range)

-- grid and stride of the second version
unfoldable pub framed : List ℤ → Result Draft Fault
framed zs = do
  p ← two zs
  grid ← grid_in p.0
  stride ← from_to 1 WIDEST_STEP p.1
  Ok (new_draft grid stride)

-- the first line
unfoldable pub first_line : List ℕ → Result Draft Fault
first_line line =
    if bytes_eq line (codes "carton job 1") then Ok (new_draft Eight 1) else (
    do
      rest ← ok_or (after (codes "carton job 2 ") line) BadLine
      numbers ← numbers_in (words_of rest)
      framed numbers)

-- line n after the first
abbrev pub later_line : Draft → ℕ → List ℕ → Result Draft Fault
later_line d n line = line_in d.grid line >>= add d n

-- the lines of a job, after any of which `end` may stand
abbrev pub job_lines : Grammar Draft
job_lines = record { begin = first_line; take = later_line; may_end = λ d. true }

-- the job that the lines up to `end` told
abbrev pub told : Draft → Job
told d = record {
  grid = stops_of d.grid;
  stride = d.stride;
  root = unwrap_or d.root 0;
  margin = unwrap_or d.margin 0;
  slack = unwrap_or d.slack 1;
  turns = unwrap_or d.turns MOST_TURNS;
  from_file = d.from_file;
  starts = d.starts;
  targets = d.targets;
  teams = d.teams;
}

-- the job of the bytes of a text
unfoldable pub job_of : List ℕ → Result Job LineError
job_of bytes = freely_read job_lines bytes >>= λ d. Ok (told d)
