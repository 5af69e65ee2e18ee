-- A job that was read keeps every rule of its text.
use Rattle.std.proofs.Common.{◌≡◌, ◌≢◌, ℕ, ◌≤◌, ◌<◌, Bool, true, false, cond, leb, List, [], ◌∷◌, ◌++◌}
use Rattle.std.proofs.Common.{length, get_or, Option, Some, None, IfSome, unwrap_or, Result, Ok, Err, refl}
use Rattle.std.proofs.Common.{sym, ap, ◌∙◌, subst, All, AllPairs, arith, rules, append_assoc, length-append}
use Rattle.std.proofs.Common.{codes, bytes_eq, eq-eqb, ok_or, ℤ, lit≤}
use Rattle.std.specs.List.{list_any}
use Rattle.std.proofs.lemmas.Bool.{leb-false}
use Rattle.std.proofs.lemmas.List.{append-nil}
use Rattle.std.proofs.lemmas.List.Elements.{All-nil, All-push}
use Rattle.std.proofs.lemmas.List.Quantifiers.{all_pairs_push}
use Rattle.std.proofs.lemmas.List.Folds.{list_any_at}
use Rattle.std.proofs.lemmas.Grind.{flat_map-append}
use Rattle.carton_base.specs.declared.ids.EdgeId.{EdgeId}
use Rattle.carton_base.specs.declared.limits.TheConstants.{MOST_TEAMS, MOST_TURNS, WIDEST_MARGIN}
use Rattle.carton_base.specs.declared.limits.TheConstants.{WIDEST_SLACK, WIDEST_STEP}
use Rattle.carton_base.specs.Grid.{IsGrid}
use Rattle.carton_base.specs.Steps.{◌>>=◌, refuse_if}
use Rattle.carton_base.proofs.Steps.{both, same_ok, not_refused, unless}
use Rattle.carton_lines.specs.declared.fault.Fault.{Fault}
use Rattle.carton_lines.specs.declared.fault.Fault.TheVariants.{BadLine, Range, Duplicate}
use Rattle.carton_text.specs.declared.grid.Grid.{Grid}
use Rattle.carton_text.specs.declared.grid.Grid.TheVariants.{Eight, Sixteen}
use Rattle.carton_text.specs.declared.job.Setting.{Setting}
use Rattle.carton_text.specs.declared.job.TeamLine.{TeamLine}
use Rattle.carton_text.specs.declared.draft.Draft.{Draft}
use Rattle.carton_text.specs.declared.job_line.JobLine.{JobLine}
use Rattle.carton_text.specs.declared.job_line.JobLine.TheVariants.{Root, Margin, Slack, Turns, TargetsFold}
use Rattle.carton_text.specs.declared.job_line.JobLine.TheVariants.{Start, Target, Team}
use Rattle.carton_text.specs.Grids.{stops_of}
use Rattle.carton_text.specs.Jobs.{new_draft, is_same, once, set_once, name_each, add_team, add, grid_in}
use Rattle.carton_text.specs.Jobs.{framed, first_line, later_line, job_lines, told}
use Rattle.carton_lines.specs.Numbers.{numbers_in, from_to}
use Rattle.carton_lines.specs.Lines.{words_of, after}
use Rattle.carton_lines.specs.Readings.{freely_read}
use Rattle.carton_text.specs.JobLines.{two, line_in}
use Rattle.carton_text.specs.JobRules.{IsSetting, AreSettings, IsTeam, members, AreTeams, IsWithin, IsJob}
use Rattle.carton_text.proofs.Kept.{IsLine, within, job_line}
use Rattle.carton_lines.proofs.Readings.{freely_kept}

none_passes : {X : Type 0} (p : X → Bool) (xs : List X) → list_any p xs ≡ false → All (λ x. p x ≡ false) xs
none_passes {X} p xs h k d lt = by_test (p (get_or xs k d)) refl
  where
    by_test : (b : Bool) → p (get_or xs k d) ≡ b → p (get_or xs k d) ≡ false
    by_test true e = let any = list_any_at p xs k d lt e in cc
    by_test false e = e

different : (d e : EdgeId) → is_same d e ≡ false → d ≢ e
different d e h = λ q. let same = ap (λ x. is_same x e) q ∙ eq-eqb e.0 e.0 refl in cc

set_new : (grid : ℕ) (settings xs : List Setting) (s : Setting) → AreSettings grid settings → IsSetting grid s
    → set_once settings s ≡ Ok xs → AreSettings grid xs
unfolding set_once
set_new grid settings xs s were is h =
    let new = unless (list_any (λ t. is_same t.edge s.edge) settings) Duplicate (settings ++ s ∷ []) xs h in
    subst (AreSettings grid) (sym new.1) (record {
      each = All-push (IsSetting grid) settings s were.each is;
      apart =
          all_pairs_push (λ t u. t.edge ≢ u.edge) settings s were.apart
          (λ k d lt. different _ s.edge (none_passes (λ t. is_same t.edge s.edge) settings new.0 k d lt));
    })

-- edges that all were new
record AreNamed (named edges out : List EdgeId) : Type 0 where
  all : out ≡ named ++ edges
  apart : AllPairs ◌≢◌ out

not_told_twice : {A : Type 0} (b : Bool) (r : Result A Fault) (x : A) → cond b (Err Duplicate) r ≡ Ok x
    → (b ≡ false) × (r ≡ Ok x)
not_told_twice true r x h = cc
not_told_twice false r x h = (refl, h)

named_new : (named edges out : List EdgeId) → AllPairs ◌≢◌ named → name_each named edges ≡ Ok out
    → AreNamed named edges out
unfolding name_each
named_new named [] out apart h =
    let is = same_ok named out _ refl h in
    record { all = sym is ∙ sym (append-nil named); apart = subst (AllPairs ◌≢◌) is apart }
named_new named (e ∷ es) out apart h =
    let new = not_told_twice (list_any (λ d. is_same d e) named) (name_each (named ++ e ∷ []) es) out h in
    let more = all_pairs_push ◌≢◌ named e apart
    (λ i d lt. different _ e (none_passes (λ d. is_same d e) named new.0 i d lt)) in
    let rest = named_new (named ++ e ∷ []) es out more new.1 in
    record { all = rest.all ∙ append_assoc named (e ∷ []) es; apart = rest.apart }

known_grid : (grid : Grid) → IsGrid (stops_of grid)
known_grid Eight = search rules
known_grid Sixteen = search rules

or_default : {A : Type 0} (P : A → Type 0) (o : Option A) (x : A) → P x → IfSome o P → P (unwrap_or o x)
or_default P None x p k = p
or_default P (Some y) x p k = k

-- what the lines so far have told keeps the rules
pub record IsDraft (d : Draft) : Type 0 where
  pub stride : IsWithin 1 WIDEST_STEP d.stride
  pub margin : IfSome d.margin (λ n. n ≤ WIDEST_MARGIN)
  pub slack : IfSome d.slack (IsWithin 1 WIDEST_SLACK)
  pub turns : IfSome d.turns (IsWithin 1 MOST_TURNS)
  pub starts : AreSettings (stops_of d.grid) d.starts
  pub targets : AreSettings (stops_of d.grid) d.targets
  pub teams : AreTeams d.teams
  pub named : d.named ≡ members d.teams

told_once : {A : Type 0} (P : A → Type 0) (o : Option A) (x : A) (y : Option A) → P x → once o x ≡ Ok y
    → IfSome y P
told_once P None x y p h = subst (λ z. IfSome z P) (same_ok (Some x) y _ refl h) p
told_once P (Some z) x y p h = cc

team_line : (d e : Draft) (n : ℕ) (es : List EdgeId) → IsDraft d → IsTeam es → add_team d n es ≡ Ok e
    → IsDraft e
unfolding add_team
team_line d e n es k is h =
    let few = both (refuse_if (leb MOST_TEAMS (length d.teams)) Range) _ e h in
    let named = both (name_each d.named es) _ e few.2 in
    let team : TeamLine = record { line = n; edges = es } in
    let new = named_new d.named es named.0 (subst (AllPairs ◌≢◌) (sym k.named) k.teams.apart) named.1 in
    let all : named.0 ≡ members (d.teams ++ team ∷ []) = new.all ∙ ap (λ (xs : List EdgeId). xs ++ es) k.named
    ∙ ap (λ (xs : List EdgeId). members d.teams ++ xs) (sym (append-nil es))
    ∙ sym (flat_map-append (λ (t : TeamLine). t.edges) d.teams (team ∷ [])) in
    let less : length d.teams < MOST_TEAMS =
    leb-false MOST_TEAMS (length d.teams) (not_refused _ Range few.0 few.1) in
    let teams : AreTeams (d.teams ++ team ∷ []) = record {
      few = rw length-append (omega arith);
      each = All-push (λ t. IsTeam t.edges) d.teams team k.teams.each is;
      apart = subst (AllPairs ◌≢◌) all new.apart;
    } in
    subst IsDraft (same_ok _ e _ refl named.2) (search rules)

add_line : (d e : Draft) (n : ℕ) (l : JobLine) → IsDraft d → IsLine (stops_of d.grid) l → add d n l ≡ Ok e
    → IsDraft e
unfolding add
add_line d e n (Root p) k is h =
    let x = both (once d.root p) _ e h in
    subst IsDraft (same_ok _ e _ refl x.2) (search rules)
add_line d e n (Margin m) k is h =
    let x = both (once d.margin m) _ e h in
    let new = told_once (λ i. i ≤ WIDEST_MARGIN) d.margin m x.0 is x.1 in
    subst IsDraft (same_ok _ e _ refl x.2) (search rules)
add_line d e n (Slack m) k is h =
    let x = both (once d.slack m) _ e h in
    let new = told_once (IsWithin 1 WIDEST_SLACK) d.slack m x.0 is x.1 in
    subst IsDraft (same_ok _ e _ refl x.2) (search rules)
add_line d e n (Turns m) k is h =
    let x = both (once d.turns m) _ e h in
    let new = told_once (IsWithin 1 MOST_TURNS) d.turns m x.0 is x.1 in
    subst IsDraft (same_ok _ e _ refl x.2) (search rules)
add_line d e n TargetsFold k is h =
    let new = unless d.from_file Duplicate (record d { from_file = true }) e h in
    subst IsDraft (sym new.1) (search rules)
add_line d e n (Start s) k is h =
    let x = both (set_once d.starts s) _ e h in
    let new = set_new (stops_of d.grid) d.starts x.0 s k.starts is x.1 in
    subst IsDraft (same_ok _ e _ refl x.2) (search rules)
add_line d e n (Target s) k is h =
    let x = both (set_once d.targets s) _ e h in
    let new = set_new (stops_of d.grid) d.targets x.0 s k.targets is x.1 in
    subst IsDraft (same_ok _ e _ refl x.2) (search rules)
add_line d e n (Team es) k is h = team_line d e n es k is h

-- the first line tells grid and stride alone
new_one : (grid : Grid) (stride : ℕ) → IsWithin 1 WIDEST_STEP stride → IsDraft (new_draft grid stride)
new_one grid stride is = record {
  stride = is;
  margin = tt;
  slack = tt;
  turns = tt;
  starts =
      record { each = All-nil (IsSetting (stops_of grid)); apart = λ i j d lt less. absurd (omega arith) };
  targets =
      record { each = All-nil (IsSetting (stops_of grid)); apart = λ i j d lt less. absurd (omega arith) };
  teams = record {
    few = omega arith;
    each = All-nil (λ t. IsTeam t.edges);
    apart = λ i j d lt less. absurd (omega arith);
  };
  named = refl;
}

framed_draft : (zs : List ℤ) (d : Draft) → framed zs ≡ Ok d → IsDraft d
unfolding framed
framed_draft zs d h =
    let p = both (two zs) _ d h in
    let grid = both (grid_in p.0.0) _ d p.2 in
    let stride = both (from_to 1 WIDEST_STEP p.0.1) _ d grid.2 in
    subst IsDraft (same_ok _ d _ refl stride.2)
    (new_one grid.0 stride.0 (within 1 WIDEST_STEP p.0.1 stride.0 stride.1))

begun : (line : List ℕ) (d : Draft) → first_line line ≡ Ok d → IsDraft d
unfolding first_line
begun line d h = by_test (bytes_eq line (codes "carton job 1")) h
  where
    second : Result Draft Fault
    second = ok_or (after (codes "carton job 2 ") line) BadLine >>= λ rest. numbers_in (words_of rest) >>=
        framed

    by_test : (b : Bool) → cond b (Ok (new_draft Eight 1)) second ≡ Ok d → IsDraft d
    by_test true e =
        subst IsDraft (same_ok _ d _ refl e) (new_one Eight 1 (record { from = omega arith; upto = lit≤ tt }))
    by_test false e =
        let rest = both (ok_or (after (codes "carton job 2 ") line) BadLine) _ d e in
        let zs = both (numbers_in (words_of rest.0)) _ d rest.2 in
        framed_draft zs.0 d zs.2

line_kept : (d e : Draft) (n : ℕ) (line : List ℕ) → IsDraft d → later_line d n line ≡ Ok e → IsDraft e
line_kept d e n line k h =
    let l = both (line_in d.grid line) (add d n) e h in
    add_line d e n l.0 k (job_line d.grid line l.0 l.1) l.2

told_job : (d : Draft) → IsDraft d → IsJob (told d)
told_job d k = record {
  on_grid = known_grid d.grid;
  stride = k.stride;
  margin = or_default (λ n. n ≤ WIDEST_MARGIN) d.margin 0 (omega arith) k.margin;
  slack = or_default (IsWithin 1 WIDEST_SLACK) d.slack 1 (record { from = omega arith; upto = lit≤ tt })
      k.slack;
  turns =
      or_default (IsWithin 1 MOST_TURNS) d.turns MOST_TURNS (record { from = lit≤ tt; upto = omega arith })
      k.turns;
  starts = k.starts;
  targets = k.targets;
  teams = k.teams;
}

-- what a text that was read has told
pub keeps_rules : (bytes : List ℕ) (d : Draft) → freely_read job_lines bytes ≡ Ok d → IsJob (told d)
keeps_rules bytes d h = told_job d (freely_kept job_lines IsDraft begun line_kept bytes d h)
