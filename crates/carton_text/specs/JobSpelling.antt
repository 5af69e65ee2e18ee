-- The canonical spelling of a job: each line that a job may have, in one order, with its numbers in decimal.
use Rattle.std.specs.Prelude.{◌≡◌, ℕ, ℤ, pos, ◌++◌, List, [], ◌∷◌, map, Bool, true, false, Ok, codes}
use Rattle.std.specs.List.{concat, flat_map}
use Rattle.carton_lines.specs.Spellings.{fed}
use Rattle.carton_lines.specs.StrictLines.{spaced}
use Rattle.carton_text.specs.declared.job.Job.{Job}
use Rattle.carton_text.specs.declared.job.Setting.{Setting}
use Rattle.carton_text.specs.declared.job.TeamLine.{TeamLine}
use Rattle.carton_text.specs.Jobs.{job_of}

-- the line of a word and numbers
abbrev pub numbers_line : List ℕ → List ℤ → List ℕ
numbers_line word zs = word ++ flat_map spaced zs

-- the line of an edge and its stop
abbrev pub setting_line : List ℕ → Setting → List ℕ
setting_line word s = numbers_line word (pos s.edge.0 ∷ s.stop.0 ∷ [])

-- the line of a team
abbrev pub team_line : TeamLine → List ℕ
team_line t = numbers_line (codes "team") (map (λ e. pos e.0) t.edges)

-- the line by which edges without a target go to the angles of the file
abbrev pub file_line : Bool → List (List ℕ)
file_line true = codes "targets fold" ∷ []
file_line false = []

-- the lines of the edges
abbrev pub edge_lines : Job → List (List ℕ)
edge_lines j =
    map (setting_line (codes "start")) j.starts
    ++ (map (setting_line (codes "target")) j.targets ++ map team_line j.teams)

-- the lines after the first
abbrev pub later_lines : Job → List (List ℕ)
later_lines j =
    numbers_line (codes "root") (pos j.root ∷ []) ∷ numbers_line (codes "margin") (pos j.margin ∷ [])
    ∷ numbers_line (codes "slack") (pos j.slack ∷ []) ∷ numbers_line (codes "turns") (pos j.turns ∷ [])
    ∷ file_line j.from_file ++ edge_lines j

-- the first line, the lines after it and the end
abbrev pub job_spelling : Job → List ℕ
job_spelling j =
    concat
    (map fed (numbers_line (codes "carton job 2") (pos j.grid ∷ pos j.stride ∷ []) ∷ later_lines j))
    ++ codes "end\n"

-- the job, whose teams may stand in lines of other numbers
pub record IsSameJob (j k : Job) : Type 0 where
  pub but_teams : k ≡ record j { teams = k.teams }
  pub teams : map (λ t. t.edges) k.teams ≡ map (λ t. t.edges) j.teams

-- the canonical spelling of the job reads back as that job
abbrev pub IsReadOfItsSpelling : Job → Type 0
IsReadOfItsSpelling j = (k : Job) × (job_of (job_spelling j) ≡ Ok k) × IsSameJob j k
