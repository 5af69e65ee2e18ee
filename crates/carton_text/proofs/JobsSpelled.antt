-- The canonical spelling of a job reads back as that job: line by line.
use Rattle.std.specs.Prelude.{AllPairs, All}
use Rattle.std.proofs.Common.{◌≡◌, ◌≢◌, ℕ, ◌*◌, ◌<◌, ◌≤◌, ℤ, pos, true, false, eqb, leb}
use Rattle.std.proofs.Common.{bytes_eq, List, [], ◌∷◌, ◌++◌, length, length-append, map, get_or, Some}
use Rattle.std.proofs.Common.{Ok, refl, sym, ap, subst, ◌∙◌, append_assoc, arith, codes}
use Rattle.std.proofs.Common.{unsigned_abs}
use Rattle.std.specs.List.{AllByRecursion}
use Rattle.std.proofs.lemmas.Bool.{le-leb, lt-leb, le-ltb, ne_eqb}
use Rattle.std.proofs.lemmas.List.{append-nil, length-map, get_or_append_left}
use Rattle.std.proofs.Math.Seq.{get_or-append_seam}
use Rattle.std.proofs.lemmas.List.Elements.{recursion_from_All}
use Rattle.std.proofs.lemmas.List.Folds.{list_any_none}
use Rattle.std.proofs.lemmas.Grind.{flat_map-append}
use Rattle.carton_base.specs.declared.ids.EdgeId.{EdgeId}
use Rattle.carton_base.specs.declared.limits.TheConstants.{MOST_TEAMS}
use Rattle.carton_lines.specs.Numbers.{from_to}
use Rattle.carton_lines.specs.Lines.{is_passed_over, next_number}
use Rattle.carton_lines.specs.Spellings.{take_all}
use Rattle.carton_lines.specs.Readings.{is_end}
use Rattle.carton_lines.proofs.SpelledLines.{Lacks, AreSmall, lacks, line_lacks, words_apart}
use Rattle.carton_lines.proofs.SpelledLines.{numbers_spelled}
use Rattle.carton_lines.proofs.Spellings.{one_taken}
use Rattle.carton_lines.proofs.FreeSpellings.{IsFree}
use Rattle.carton_text.specs.declared.grid.Grid.{Grid}
use Rattle.carton_text.specs.declared.job.Setting.{Setting}
use Rattle.carton_text.specs.declared.job.TeamLine.{TeamLine}
use Rattle.carton_text.specs.declared.draft.Draft.{Draft}
use Rattle.carton_text.specs.declared.job_line.TheConstants.{MOST_MEMBERS}
use Rattle.carton_text.specs.declared.job_line.Keyword.{Keyword}
use Rattle.carton_text.specs.declared.job_line.Keyword.TheVariants.{Start, Target}
use Rattle.carton_text.specs.declared.job_line.Keyword.TheVariants.{Team}
use Rattle.carton_text.specs.Grids.{stops_of}
use Rattle.carton_text.specs.Jobs.{is_same, set_once, name_each, add_team, add, later_line, job_lines}
use Rattle.carton_text.specs.JobLines.{setting_in, team_in, keyword_in, numbered, worded, line_in}
use Rattle.carton_text.specs.JobRules.{IsEdgeNumber, IsSetting, IsTeam, members}
use Rattle.carton_text.specs.JobSpelling.{numbers_line, setting_line, team_line}
use Rattle.carton_text.proofs.PlanEntries.{edge_told, edges_told, small_edges, few_stops}
use Rattle.carton_text.proofs.Rising.{numbers_of}

-- a number within its limits is taken
pub within_told : (low high n : ℕ) → low ≤ n → n ≤ high → from_to low high (pos n) ≡ Ok n
within_told low high n from upto = rw (le-leb low n from, le-leb n high upto) refl

-- a line of a keyword and numbers
pub line_told : (grid : Grid) (word : List ℕ) (keyword : Keyword) (zs : List ℤ) → Lacks 32 word → AreSmall zs
    → bytes_eq (numbers_line word zs) (codes "targets fold") ≡ false → keyword_in word ≡ Some keyword
    → line_in grid (numbers_line word zs) ≡ numbered grid keyword zs
unfolding line_in worded
line_told grid word keyword zs w small other k =
    rw (other, words_apart word zs w small, k, numbers_spelled 0 zs small) refl

-- a line of a word and numbers tells something and isn't the end
pub free_line : (word : List ℕ) (zs : List ℤ) → Lacks 10 word → Lacks 13 word → AreSmall zs
    → is_passed_over (numbers_line word zs) ≡ false → is_end (numbers_line word zs) ≡ false
    → IsFree (numbers_line word zs)
free_line word zs feed return small told inner = record {
  telling = record {
    feed = line_lacks 10 (omega arith) word zs feed small;
    return = line_lacks 13 (omega arith) word zs return small;
    told = told;
  };
  between = inner;
}

setting_told : (grid : Grid) (s : Setting) → IsSetting (stops_of grid) s
    → setting_in grid (pos s.edge.0 ∷ s.stop.0 ∷ []) ≡ Ok s
unfolding setting_in
setting_told grid s is =
    let near : leb (unsigned_abs s.stop.0) (2 * stops_of grid) ≡ true = le-leb _ _ is.stop in
    rw (edge_told s.edge is.edge, near) refl

pub small_setting : (grid : Grid) (s : Setting) → IsSetting (stops_of grid) s
    → AreSmall (pos s.edge.0 ∷ s.stop.0 ∷ [])
small_setting grid s is = (omega (arith, is.edge), (omega (arith, is.stop, few_stops grid), tt))

team_told : (es : List EdgeId) → IsTeam es → team_in (numbers_of es) ≡ Ok es
unfolding team_in
team_told es is =
    let count = length-map es (λ (e : EdgeId). pos e.0) in
    let some : eqb (length (numbers_of es)) 0 ≡ false =
    ne_eqb (length (numbers_of es)) 0 (λ e. omega (arith, e, count, is.some)) in
    let few = le-ltb MOST_MEMBERS (length (numbers_of es)) (omega (arith, is.few, count)) in
    rw (some, few) (edges_told 0 es (recursion_from_All IsEdgeNumber es is.each))

-- what stands before an element of a list whose elements are apart is apart from it
before_apart : {X : Type 0} (R : X → X → Type 0) (xs ys : List X) (y : X) → AllPairs R (xs ++ y ∷ ys)
    → All (λ x. R x y) xs
before_apart R xs ys y h = λ k d lt.
    subst (λ z. R z y) (get_or_append_left xs (y ∷ ys) d k lt)
    (subst (R (get_or (xs ++ y ∷ ys) k d)) (get_or-append_seam xs y ys d)
    (h k (length xs) d lt (omega (arith, length-append xs (y ∷ ys)))))

not_same : (d e : EdgeId) → d ≢ e → is_same d e ≡ false
not_same d e h = ne_eqb d.0 e.0 (λ q. h (λ i. record { 0 = q i }))

set_told : (done rest : List Setting) (s : Setting) → AllPairs (λ s t. s.edge ≢ t.edge) (done ++ s ∷ rest)
    → set_once done s ≡ Ok (done ++ s ∷ [])
unfolding set_once
set_told done rest s h =
    let apart = before_apart (λ s t. s.edge ≢ t.edge) done rest s h in
    rw (list_any_none (λ t. is_same t.edge s.edge) done
    (λ k d lt. not_same _ s.edge (apart k d lt))) refl

name_told : (named es : List EdgeId) → AllPairs ◌≢◌ (named ++ es) → name_each named es ≡ Ok (named ++ es)
unfolding name_each
name_told named [] h = ap (λ (xs : List EdgeId). Ok xs) (sym (append-nil named))
name_told named (e ∷ es) h =
    let apart = before_apart ◌≢◌ named es e h in
    let all = append_assoc named (e ∷ []) es in
    rw (list_any_none (λ d. is_same d e) named (λ k d lt. not_same _ e (apart k d lt)))
    (name_told (named ++ e ∷ []) es (subst (AllPairs ◌≢◌) (sym all) h)
    ∙ ap (λ (xs : List EdgeId). Ok xs) all)

-- whatever the number of the last line is, the lines after it tell what has P
abbrev pub Read : (Draft → Type 0) → Draft → List (List ℕ) → Type 0
Read P d lines = (n : ℕ) → (e : Draft) × (take_all job_lines d n lines ≡ Ok e) × P e

-- one line, and the lines after it
pub line_read : (P : Draft → Type 0) (d f : Draft) (line : List ℕ) (lines : List (List ℕ))
    → ((n : ℕ) → later_line d n line ≡ Ok f) → Read P f lines → Read P d (line ∷ lines)
line_read P d f line lines h rest = λ n.
    let r = rest (next_number n) in
    (r.0, one_taken job_lines d f n line lines (h (next_number n)) ∙ r.1, r.2)

-- settings of one kind, which stand in put of a draft
module _ (P : Draft → Type 0) (grid : Grid) (put : List Setting → Draft) (line_of : Setting → List ℕ)
    (one : (done : List Setting) (s : Setting) (n : ℕ) → IsSetting (stops_of grid) s
    → set_once done s ≡ Ok (done ++ s ∷ [])
    → later_line (put done) n (line_of s) ≡ Ok (put (done ++ s ∷ []))) where
  pub settings_read : (done ss : List Setting) (lines : List (List ℕ))
      → AllPairs (λ s t. s.edge ≢ t.edge) (done ++ ss) → AllByRecursion (IsSetting (stops_of grid)) ss
      → Read P (put (done ++ ss)) lines → Read P (put done) (map line_of ss ++ lines)
  settings_read done [] lines apart each rest = subst (λ xs. Read P (put xs) lines) (append-nil done) rest
  settings_read done (s ∷ ss) lines apart each rest =
      let all = append_assoc done (s ∷ []) ss in
      line_read P (put done) (put (done ++ s ∷ [])) (line_of s) (map line_of ss ++ lines)
      (λ n. one done s n each.0 (set_told done ss s apart))
      (settings_read (done ++ s ∷ []) ss lines
      (subst (AllPairs (λ s t. s.edge ≢ t.edge)) (sym all) apart) each.1
      (subst (λ xs. Read P (put xs) lines) (sym all) rest))

pub start_line : (d : Draft) (xs : List Setting) (s : Setting) (n : ℕ) → IsSetting (stops_of d.grid) s
    → set_once d.starts s ≡ Ok xs
    → later_line d n (setting_line (codes "start") s) ≡ Ok (record d { starts = xs })
unfolding add numbered keyword_in
start_line d xs s n is once =
    let word = codes "start" in
    rw (
      line_told d.grid word Start (pos s.edge.0 ∷ s.stop.0 ∷ []) (lacks 32 word refl)
          (small_setting d.grid s is) refl refl,
      setting_told d.grid s is,
      once,
    ) refl

pub target_line : (d : Draft) (xs : List Setting) (s : Setting) (n : ℕ) → IsSetting (stops_of d.grid) s
    → set_once d.targets s ≡ Ok xs
    → later_line d n (setting_line (codes "target") s) ≡ Ok (record d { targets = xs })
unfolding add numbered keyword_in
target_line d xs s n is once =
    let word = codes "target" in
    rw (
      line_told d.grid word Target (pos s.edge.0 ∷ s.stop.0 ∷ []) (lacks 32 word refl)
          (small_setting d.grid s is) refl refl,
      setting_told d.grid s is,
      once,
    ) refl

-- the teams in lines of their own after line n
abbrev pub lined : ℕ → List TeamLine → List TeamLine
lined n [] = []
lined n (t ∷ ts) = record { line = next_number n; edges = t.edges } ∷ lined (next_number n) ts

pub lined_edges : (n : ℕ) (ts : List TeamLine)
    → map (λ t. t.edges) (lined n ts) ≡ map (λ (t : TeamLine). t.edges) ts
lined_edges n [] = refl
lined_edges n (t ∷ ts) = ap (λ (xs : List (List EdgeId)). t.edges ∷ xs) (lined_edges (next_number n) ts)

-- the draft that has been told these teams alone
abbrev pub with_teams : Draft → List TeamLine → Draft
with_teams d teams = record d { teams = teams; named = members teams }

front_apart : {X : Type 0} (R : X → X → Type 0) (xs ys : List X) → AllPairs R (xs ++ ys) → AllPairs R xs
front_apart R xs ys h = λ i j d lt less.
    subst (λ z. R z (get_or xs j d)) (get_or_append_left xs ys d i (omega (arith, lt, less)))
    (subst (R (get_or (xs ++ ys) i d)) (get_or_append_left xs ys d j less)
    (h i j d lt (omega (arith, less, length-append xs ys))))

members_of : (done ts : List TeamLine) (t : TeamLine)
    → members (done ++ t ∷ ts) ≡ (members done ++ t.edges) ++ members ts
members_of done ts t = flat_map-append (λ (u : TeamLine). u.edges) done (t ∷ ts)
    ∙ sym (append_assoc (members done) t.edges (members ts))

team_added : (d : Draft) (done : List TeamLine) (t : TeamLine) (n : ℕ) → IsTeam t.edges
    → AllPairs ◌≢◌ (members done ++ t.edges) → length done < MOST_TEAMS
    → later_line (with_teams d done) n (team_line t)
    ≡ Ok (with_teams d (done ++ record { line = n; edges = t.edges } ∷ []))
unfolding add numbered add_team keyword_in
team_added d done t n is apart few =
    let word = codes "team" in
    let small = small_edges t.edges (recursion_from_All IsEdgeNumber t.edges is.each) in
    let one : TeamLine = record { line = n; edges = t.edges } in
    let all : members done ++ t.edges ≡ members (done ++ one ∷ []) =
    sym (members_of done [] one ∙ append-nil (members done ++ t.edges)) in
    let not_file : bytes_eq (numbers_line word (numbers_of t.edges)) (codes "targets fold") ≡ false = refl in
    rw (
      line_told d.grid word Team (numbers_of t.edges) (lacks 32 word refl) small not_file refl,
      team_told t.edges is,
      lt-leb MOST_TEAMS (length done) few,
      name_told (members done) t.edges apart,
    )
    (ap (λ (named : List EdgeId). Ok (record d { teams = done ++ one ∷ []; named = named })) all)

pub teams_read : (d : Draft) (done ts : List TeamLine) (n : ℕ) → AllPairs ◌≢◌ (members (done ++ ts))
    → AllByRecursion (λ t. IsTeam t.edges) ts → length (done ++ ts) ≤ MOST_TEAMS
    → take_all job_lines (with_teams d done) n (map team_line ts) ≡ Ok (with_teams d (done ++ lined n ts))
unfolding take_all
teams_read d done [] n apart each few = ap (λ xs. Ok (with_teams d xs)) (sym (append-nil done))
teams_read d done (t ∷ ts) n apart each few =
    let m = next_number n in
    let one : TeamLine = record { line = m; edges = t.edges } in
    let more = done ++ one ∷ [] in
    let here = front_apart ◌≢◌ (members done ++ t.edges) (members ts)
    (subst (AllPairs ◌≢◌) (members_of done ts t) apart) in
    let same : members (done ++ t ∷ ts) ≡ members (more ++ ts) = members_of done ts t
    ∙ sym (members_of done ts one) ∙ ap members (sym (append_assoc done (one ∷ []) ts)) in
    one_taken job_lines (with_teams d done) (with_teams d more) n (team_line t) (map team_line ts)
    (team_added d done t m each.0 here (omega (arith, few, length-append done (t ∷ ts))))
    ∙ teams_read d more ts m (subst (AllPairs ◌≢◌) same apart) each.1 (omega (
      arith,
      few,
      length-append done (t ∷ ts),
      length-append more ts,
      length-append done (one ∷ []),
    ))
    ∙ ap (λ xs. Ok (with_teams d xs)) (append_assoc done (one ∷ []) (lined m ts))
