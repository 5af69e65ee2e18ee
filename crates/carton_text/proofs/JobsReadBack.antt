-- The canonical spelling of a job reads back as that job.
use Rattle.std.proofs.Common.{◌≡◌, ℕ, ◌≤◌, ℤ, pos, Bool, true, false, ◌||◌, eqb, List, [], ◌∷◌, ◌++◌, map}
use Rattle.std.proofs.Common.{Some, None, Ok, refl, sym, ap, subst, arith, codes}
use Rattle.std.specs.Fmt.{signed_decimal}
use Rattle.std.specs.List.{AllByRecursion}
use Rattle.std.proofs.lemmas.Bool.{eqb-true}
use Rattle.std.proofs.lemmas.List.Elements.{recursion_from_All}
use Rattle.carton_base.specs.declared.limits.TheConstants.{WIDEST_STEP}
use Rattle.carton_base.specs.Grid.{IsGrid}
use Rattle.carton_lines.specs.Lines.{next_number}
use Rattle.carton_lines.proofs.SpelledLines.{AreSmall, lacks, line_lacks, number_lacks, words_apart}
use Rattle.carton_lines.proofs.SpelledLines.{numbers_spelled}
use Rattle.carton_lines.proofs.FreeSpellings.{IsTelling, IsFree, both_free, each_free, freely_told}
use Rattle.carton_text.specs.declared.grid.Grid.{Grid}
use Rattle.carton_text.specs.declared.grid.Grid.TheVariants.{Eight, Sixteen}
use Rattle.carton_text.specs.declared.job.Job.{Job}
use Rattle.carton_text.specs.declared.job.Setting.{Setting}
use Rattle.carton_text.specs.declared.job.TeamLine.{TeamLine}
use Rattle.carton_text.specs.declared.draft.Draft.{Draft}
use Rattle.carton_text.specs.declared.job_line.Keyword.TheVariants.{Root, Margin, Slack, Turns}
use Rattle.carton_text.specs.Grids.{stops_of}
use Rattle.carton_text.specs.Jobs.{new_draft, add, framed, first_line, later_line, job_lines, job_of, told}
use Rattle.carton_text.specs.JobLines.{keyword_in, numbered, line_in}
use Rattle.carton_text.specs.JobRules.{IsEdgeNumber, IsSetting, IsTeam, IsWithin, IsJob}
use Rattle.carton_text.specs.JobSpelling.{numbers_line, setting_line, team_line, file_line, edge_lines}
use Rattle.carton_text.specs.JobSpelling.{later_lines, IsReadOfItsSpelling}
use Rattle.carton_text.proofs.PlanEntries.{small_edges}
use Rattle.carton_text.proofs.Rising.{numbers_of}
use Rattle.carton_text.proofs.JobsSpelled.{within_told, line_told, free_line, small_setting, Read, line_read}
use Rattle.carton_text.proofs.JobsSpelled.{settings_read, start_line, target_line, lined, lined_edges}
use Rattle.carton_text.proofs.JobsSpelled.{teams_read, with_teams}

grid_told : (n : ℕ) → IsGrid n → (g : Grid) × (n ≡ stops_of g)
grid_told n h = by_eight (eqb n 8) refl h
  where
    by_eight : (b : Bool) → eqb n 8 ≡ b → (b || eqb n 16) ≡ true → (g : Grid) × (n ≡ stops_of g)
    by_eight true e k = (Eight, eqb-true n 8 e)
    by_eight false e k = (Sixteen, eqb-true n 16 k)

first_told : (g : Grid) (stride : ℕ) → IsWithin 1 WIDEST_STEP stride
    → first_line (numbers_line (codes "carton job 2") (pos (stops_of g) ∷ pos stride ∷ []))
    ≡ Ok (new_draft g stride)
unfolding first_line framed
first_told Eight stride is =
    let small : AreSmall (pos stride ∷ []) = (omega (arith, is.upto), tt) in
    let word = signed_decimal (pos 8) in
    rw (
      words_apart word (pos stride ∷ []) (number_lacks 32 (omega arith) (pos 8) (omega arith)) small,
      numbers_spelled 0 (pos 8 ∷ pos stride ∷ []) (omega arith, small),
      within_told 1 WIDEST_STEP stride is.from is.upto,
    ) refl
first_told Sixteen stride is =
    let small : AreSmall (pos stride ∷ []) = (omega (arith, is.upto), tt) in
    let word = signed_decimal (pos 16) in
    rw (
      words_apart word (pos stride ∷ []) (number_lacks 32 (omega arith) (pos 16) (omega arith)) small,
      numbers_spelled 0 (pos 16 ∷ pos stride ∷ []) (omega arith, small),
      within_told 1 WIDEST_STEP stride is.from is.upto,
    ) refl

small_one : (most n : ℕ) → n ≤ most → most ≤ 100000 → AreSmall (pos n ∷ [])
small_one most n upto few = (omega (arith, upto, few), tt)

root_line : (d : Draft) (p n : ℕ) → p ≤ 255 → d.root ≡ None
    → later_line d n (numbers_line (codes "root") (pos p ∷ [])) ≡ Ok (record d { root = Some p })
unfolding add numbered keyword_in
root_line d p n upto none =
    let word = codes "root" in
    rw (
      line_told d.grid word Root (pos p ∷ []) (lacks 32 word refl) (small_one 255 p upto (omega arith)) refl
          refl,
      within_told 0 255 p (omega arith) upto,
      none,
    ) refl

margin_line : (d : Draft) (m n : ℕ) → m ≤ 1000 → d.margin ≡ None
    → later_line d n (numbers_line (codes "margin") (pos m ∷ [])) ≡ Ok (record d { margin = Some m })
unfolding add numbered keyword_in
margin_line d m n upto none =
    let word = codes "margin" in
    rw (
      line_told d.grid word Margin (pos m ∷ []) (lacks 32 word refl) (small_one 1000 m upto (omega arith))
          refl refl,
      within_told 0 1000 m (omega arith) upto,
      none,
    ) refl

slack_line : (d : Draft) (m n : ℕ) → IsWithin 1 1000 m → d.slack ≡ None
    → later_line d n (numbers_line (codes "slack") (pos m ∷ [])) ≡ Ok (record d { slack = Some m })
unfolding add numbered keyword_in
slack_line d m n is none =
    let word = codes "slack" in
    rw (
      line_told d.grid word Slack (pos m ∷ []) (lacks 32 word refl)
          (small_one 1000 m is.upto (omega arith)) refl refl,
      within_told 1 1000 m is.from is.upto,
      none,
    ) refl

turns_line : (d : Draft) (m n : ℕ) → IsWithin 1 100000 m → d.turns ≡ None
    → later_line d n (numbers_line (codes "turns") (pos m ∷ [])) ≡ Ok (record d { turns = Some m })
unfolding add numbered keyword_in
turns_line d m n is none =
    let word = codes "turns" in
    rw (
      line_told d.grid word Turns (pos m ∷ []) (lacks 32 word refl)
          (small_one 100000 m is.upto (omega arith)) refl refl,
      within_told 1 100000 m is.from is.upto,
      none,
    ) refl

file_read : (P : Draft → Type 0) (d : Draft) (b : Bool) (lines : List (List ℕ))
    → Read P (record d { from_file = b }) lines
    → Read P (record d { from_file = false }) (file_line b ++ lines)
unfolding add line_in
file_read P d false lines rest = rest
file_read P d true lines rest =
    line_read P (record d { from_file = false }) (record d { from_file = true }) (codes "targets fold") lines
    (λ n. refl) rest

-- what the lines up to the teams tell
abbrev before_teams : Grid → Job → Draft
before_teams g j = record {
  grid = g;
  stride = j.stride;
  root = Some j.root;
  margin = Some j.margin;
  slack = Some j.slack;
  turns = Some j.turns;
  from_file = j.from_file;
  starts = j.starts;
  targets = j.targets;
  teams = [];
  named = [];
}

-- all lines tell this and the teams
abbrev IsAll : Grid → Job → Draft → Type 0
IsAll g j e = (n : ℕ) × (e ≡ with_teams (before_teams g j) (lined n j.teams))

edges_read : (g : Grid) (j : Job) → j.grid ≡ stops_of g → IsJob j
    → Read (IsAll g j) (record (before_teams g j) { starts = []; targets = [] }) (edge_lines j)
edges_read g j on is =
    let d = before_teams g j in
    let settings = λ (xs : List Setting) (each : AllByRecursion (IsSetting j.grid) xs).
    subst (λ k. AllByRecursion (IsSetting k) xs) on each in
    let each = recursion_from_All (λ t. IsTeam t.edges) j.teams is.teams.each in
    let teams : Read (IsAll g j) d (map team_line j.teams) = λ n. (
      with_teams d (lined n j.teams),
      teams_read d [] j.teams n is.teams.apart each is.teams.few,
      (n, refl),
    ) in
    let targets = settings_read (IsAll g j) g (λ xs. record d { targets = xs })
    (setting_line (codes "target"))
    (λ done s n at once. target_line (record d { targets = done }) (done ++ s ∷ []) s n at once) [] j.targets
    (map team_line j.teams) is.targets.apart
    (settings j.targets (recursion_from_All (IsSetting j.grid) j.targets is.targets.each)) teams in
    settings_read (IsAll g j) g (λ xs. record d { starts = xs; targets = [] }) (setting_line (codes "start"))
    (λ done s n at once. start_line (record d { starts = done; targets = [] }) (done ++ s ∷ []) s n at once)
    [] j.starts _ is.starts.apart
    (settings j.starts (recursion_from_All (IsSetting j.grid) j.starts is.starts.each)) targets

lines_read : (g : Grid) (j : Job) → j.grid ≡ stops_of g → IsJob j → j.root ≤ 255
    → Read (IsAll g j) (new_draft g j.stride) (later_lines j)
lines_read g j on is root =
    let d = new_draft g j.stride in
    let d1 : Draft = record d { root = Some j.root } in
    let d2 : Draft = record d1 { margin = Some j.margin } in
    let d3 : Draft = record d2 { slack = Some j.slack } in
    let d4 : Draft = record d3 { turns = Some j.turns } in
    let P = IsAll g j in
    let file = file_read P d4 j.from_file (edge_lines j) (edges_read g j on is) in
    line_read P d d1 _ _ (λ n. root_line d j.root n root refl)
    (line_read P d1 d2 _ _ (λ n. margin_line d1 j.margin n is.margin refl)
    (line_read P d2 d3 _ _ (λ n. slack_line d2 j.slack n is.slack refl)
    (line_read P d3 d4 _ _ (λ n. turns_line d3 j.turns n is.turns refl) file)))

file_free : (b : Bool) → AllByRecursion IsFree (file_line b)
file_free false = tt
file_free true =
    let line = codes "targets fold" in (
      record {
        telling = record { feed = lacks 10 line refl; return = lacks 13 line refl; told = refl };
        between = refl;
      },
      tt,
    )

edges_free : (g : Grid) (j : Job) → j.grid ≡ stops_of g → IsJob j → AllByRecursion IsFree (edge_lines j)
edges_free g j on is =
    let settings = λ (word : List ℕ) (free : (zs : List ℤ) → AreSmall zs → IsFree (numbers_line word zs))
    (xs : List Setting) (each : AllByRecursion (IsSetting j.grid) xs).
    each_free (setting_line word) (IsSetting j.grid)
    (λ s at. free (pos s.edge.0 ∷ s.stop.0 ∷ []) (small_setting g s (subst (λ k. IsSetting k s) on at)))
    xs each in
    let word = codes "team" in
    let team = λ (t : TeamLine) (at : IsTeam t.edges).
    free_line word (numbers_of t.edges) (lacks 10 word refl) (lacks 13 word refl)
    (small_edges t.edges (recursion_from_All IsEdgeNumber t.edges at.each)) refl refl in
    let start = codes "start" in
    let target = codes "target" in
    let starts = recursion_from_All (IsSetting j.grid) j.starts is.starts.each in
    let free_start = λ (zs : List ℤ) (small : AreSmall zs).
    free_line start zs (lacks 10 start refl) (lacks 13 start refl) small refl refl in
    both_free (map (setting_line start) j.starts) _
    (settings start free_start j.starts starts)
    (both_free (map (setting_line target) j.targets) _
    (settings target
    (λ zs small. free_line target zs (lacks 10 target refl) (lacks 13 target refl) small refl refl)
    j.targets (recursion_from_All (IsSetting j.grid) j.targets is.targets.each))
    (each_free team_line (λ t. IsTeam t.edges) team j.teams
    (recursion_from_All (λ t. IsTeam t.edges) j.teams is.teams.each)))

one_free : (word : List ℕ) (most n : ℕ) → n ≤ most → most ≤ 100000
    → ((zs : List ℤ) → AreSmall zs → IsFree (numbers_line word zs)) → IsFree (numbers_line word (pos n ∷ []))
one_free word most n upto few free = free (pos n ∷ []) (small_one most n upto few)

lines_free : (g : Grid) (j : Job) → j.grid ≡ stops_of g → IsJob j → j.root ≤ 255
    → AllByRecursion IsFree (later_lines j)
lines_free g j on is root =
    let a = codes "root" in
    let b = codes "margin" in
    let c = codes "slack" in
    let d = codes "turns" in (
      one_free a 255 j.root root (omega arith)
          (λ zs s. free_line a zs (lacks 10 a refl) (lacks 13 a refl) s refl refl),
      (
        one_free b 1000 j.margin is.margin (omega arith)
            (λ zs s. free_line b zs (lacks 10 b refl) (lacks 13 b refl) s refl refl),
        (
          one_free c 1000 j.slack is.slack.upto (omega arith)
              (λ zs s. free_line c zs (lacks 10 c refl) (lacks 13 c refl) s refl refl),
          (
            one_free d 100000 j.turns is.turns.upto (omega arith)
                (λ zs s. free_line d zs (lacks 10 d refl) (lacks 13 d refl) s refl refl),
            both_free (file_line j.from_file) (edge_lines j) (file_free j.from_file) (edges_free g j on is),
          ),
        ),
      ),
    )

read_on : (g : Grid) (j : Job) → j.grid ≡ stops_of g → IsJob j → j.root ≤ 255 → IsReadOfItsSpelling j
unfolding job_of
read_on g j on is root =
    let word = codes "carton job 2" in
    let zs : List ℤ = pos j.grid ∷ pos j.stride ∷ [] in
    let few : stops_of g ≤ 16 = few_stops g in
    let small : AreSmall zs = (omega (arith, on, few), (omega (arith, is.stride.upto), tt)) in
    let telling : IsTelling (numbers_line word zs) = record {
      feed = line_lacks 10 (omega arith) word zs (lacks 10 word refl) small;
      return = line_lacks 13 (omega arith) word zs (lacks 13 word refl) small;
      told = refl;
    } in
    let begins = subst (λ n. first_line (numbers_line word (pos n ∷ pos j.stride ∷ []))
    ≡ Ok (new_draft g j.stride)) (sym on) (first_told g j.stride is.stride) in
    let r = lines_read g j on is root (next_number 0) in
    let all = freely_told job_lines (numbers_line word zs) (later_lines j) (new_draft g j.stride) r.0 telling
    (lines_free g j on is root) begins r.1 refl in
    let n = r.2.0 in
    let k = told (with_teams (before_teams g j) (lined n j.teams)) in (
      k,
      rw all (ap (λ (d : Draft). Ok (told d)) r.2.1),
      record {
        but_teams = λ i. record j { grid = sym on i; teams = lined n j.teams };
        teams = lined_edges n j.teams;
      },
    )
  where
    few_stops : (g : Grid) → stops_of g ≤ 16
    few_stops Eight = omega arith
    few_stops Sixteen = omega arith

-- each job that keeps its rules
pub read_back : (j : Job) → IsJob j → j.root ≤ 255 → IsReadOfItsSpelling j
read_back j is root =
    let g = grid_told j.grid is.on_grid in
    read_on g.0 j g.1 is root
