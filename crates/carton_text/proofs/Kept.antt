-- A line of a job that was read keeps the rules of its form.
use Rattle.std.specs.Prelude.{⊤}
use Rattle.std.proofs.Common.{◌≡◌, ℕ, ℤ, pos, negsuc, ◌*◌, ◌≤◌, unsigned_abs, Bool, true, false, ◌&&◌, leb}
use Rattle.std.proofs.Common.{ltb, eqb, List, length, Result, Ok, Err, refl, sym, subst, arith, codes}
use Rattle.std.proofs.Common.{bytes_eq, ok_or, cond, [], ◌∷◌}
use Rattle.std.proofs.lemmas.Bool.{leb-true, ltb-false}
use Rattle.std.proofs.lemmas.Bool.Decides.{nat_tests}
use Rattle.carton_base.specs.declared.ids.EdgeId.{EdgeId}
use Rattle.carton_base.specs.declared.limits.TheConstants.{MOST_TURNS, WIDEST_MARGIN, WIDEST_SLACK}
use Rattle.carton_base.specs.Steps.{◌>>=◌, refuse_if}
use Rattle.carton_base.proofs.Steps.{both, same_ok, not_refused, only_if, count_entries, all_entries}
use Rattle.carton_lines.specs.declared.fault.Fault.{Fault}
use Rattle.carton_lines.specs.declared.fault.Fault.TheVariants.{BadLine, Range}
use Rattle.carton_text.specs.declared.grid.Grid.{Grid}
use Rattle.carton_text.specs.declared.job.Setting.{Setting}
use Rattle.carton_text.specs.declared.job_line.TheConstants.{LAST_EDGE, MOST_MEMBERS}
use Rattle.carton_text.specs.declared.job_line.Keyword.{Keyword}
use Rattle.carton_text.specs.declared.job_line.Keyword.TheVariants as word
use Rattle.carton_text.specs.declared.job_line.JobLine.{JobLine}
use Rattle.carton_text.specs.declared.job_line.JobLine.TheVariants.{Root, Margin, Slack, Turns, TargetsFold}
use Rattle.carton_text.specs.declared.job_line.JobLine.TheVariants.{Start, Target, Team}
use Rattle.carton_text.specs.Grids.{stops_of}
use Rattle.carton_lines.specs.Numbers.{numbers_in, from_to, at_most}
use Rattle.carton_lines.specs.Lines.{words_of}
use Rattle.carton_text.specs.JobLines.{one, two, edge_in, setting_in, team_in, keyword_in, numbered, worded}
use Rattle.carton_text.specs.JobLines.{line_in}
use Rattle.carton_text.specs.JobRules.{IsEdgeNumber, IsSetting, IsTeam, IsWithin}

both_true : (a b : Bool) → (a && b) ≡ true → (a ≡ true) × (b ≡ true)
both_true true b h = (refl, h)
both_true false b h = cc

pub within : (low high : ℕ) (z : ℤ) (n : ℕ) → from_to low high z ≡ Ok n → IsWithin low high n
within low high (pos m) n h =
    let p = only_if (leb low m && leb m high) Range m n h in
    let t = both_true (leb low m) (leb m high) p.0 in
    subst (IsWithin low high) (sym p.1) (record { from = leb-true low m t.0; upto = leb-true m high t.1 })
within low high (negsuc m) n h = cc

sized : (most : ℕ) (z s : ℤ) → at_most most z ≡ Ok s → unsigned_abs s ≤ most
sized most z s h =
    let p = only_if (leb (unsigned_abs z) most) Range z s h in
    rw p.1 (leb-true (unsigned_abs z) most p.0)

edge_number : (i : ℕ) (z : ℤ) (e : EdgeId) → edge_in z ≡ Ok e → IsEdgeNumber e
edge_number i z e h =
    let made : ℕ → Result EdgeId Fault = λ m. Ok (record { 0 = m }) in
    let n = both (from_to 0 LAST_EDGE z) made e h in
    let w = within 0 LAST_EDGE z n.0 n.1 in
    let last : n.0 ≤ LAST_EDGE = w.upto in
    let is : record { 0 = n.0 } ≡ e = same_ok (record { 0 = n.0 }) e _ refl n.2 in
    subst IsEdgeNumber is (omega arith)

is_setting : (grid : Grid) (zs : List ℤ) (s : Setting) → setting_in grid zs ≡ Ok s
    → IsSetting (stops_of grid) s
unfolding setting_in
is_setting grid zs s h =
    let p = both (two zs) _ s h in
    let e = both (edge_in p.0.0) _ s p.2 in
    let t = both (at_most (2 * stops_of grid) p.0.1) _ s e.2 in
    let made : record { edge = e.0; stop = record { 0 = t.0 } } ≡ s = same_ok _ s _ refl t.2 in
    subst (IsSetting (stops_of grid)) made
    (record { edge = edge_number 0 p.0.0 e.0 e.1; stop = sized _ p.0.1 t.0 t.1 })

is_team : (zs : List ℤ) (edges : List EdgeId) → team_in zs ≡ Ok edges → IsTeam edges
unfolding team_in
is_team zs edges h =
    let some = both (refuse_if (eqb (length zs) 0) BadLine) _ edges h in
    let few = both (refuse_if (ltb MOST_MEMBERS (length zs)) Range) _ edges some.2 in
    let one = not_refused _ BadLine some.0 some.1 in
    let count = count_entries (λ i. edge_in) 0 zs edges few.2 in
    let least : 1 ≤ length zs = grind (arith, nat_tests) in
    record {
      some = rw count least;
      few = rw count (ltb-false MOST_MEMBERS (length zs) (not_refused _ Range few.0 few.1));
      each = all_entries IsEdgeNumber (λ i. edge_in) edge_number 0 zs edges few.2;
    }

-- what a line by itself tells
abbrev pub IsLine : ℕ → JobLine → Type 0
IsLine grid (Root p) = ⊤
IsLine grid (Margin n) = n ≤ WIDEST_MARGIN
IsLine grid (Slack n) = IsWithin 1 WIDEST_SLACK n
IsLine grid (Turns n) = IsWithin 1 MOST_TURNS n
IsLine grid TargetsFold = ⊤
IsLine grid (Start s) = IsSetting grid s
IsLine grid (Target s) = IsSetting grid s
IsLine grid (Team edges) = IsTeam edges

-- the line that is made of what a step gave keeps what that step keeps
made_line : {A : Type 0} (grid : ℕ) (r : Result A Fault) (make : A → JobLine) (l : JobLine)
    → (r >>= λ x. Ok (make x)) ≡ Ok l → ((x : A) → r ≡ Ok x → IsLine grid (make x)) → IsLine grid l
made_line grid (Ok x) make l h kept = subst (IsLine grid) (same_ok (make x) l _ refl h) (kept x refl)
made_line grid (Err e) make l h kept = cc

number_line : (low high : ℕ) (zs : List ℤ) (n : ℕ) → (one zs >>= from_to low high) ≡ Ok n
    → IsWithin low high n
number_line low high zs n h =
    let z = both (one zs) (from_to low high) n h in
    within low high z.0 n z.2

numbered_line : (grid : Grid) (keyword : Keyword) (zs : List ℤ) (l : JobLine) → numbered grid keyword zs
    ≡ Ok l → IsLine (stops_of grid) l
unfolding numbered
numbered_line grid word.Root zs l h = made_line _ (one zs >>= from_to 0 255) Root l h (λ n e. tt)
numbered_line grid word.Margin zs l h =
    made_line _ (one zs >>= from_to 0 WIDEST_MARGIN) Margin l h
    (λ n e. (number_line 0 WIDEST_MARGIN zs n e).upto)
numbered_line grid word.Slack zs l h =
    made_line _ (one zs >>= from_to 1 WIDEST_SLACK) Slack l h (number_line 1 WIDEST_SLACK zs)
numbered_line grid word.Turns zs l h =
    made_line _ (one zs >>= from_to 1 MOST_TURNS) Turns l h (number_line 1 MOST_TURNS zs)
numbered_line grid word.Start zs l h = made_line _ (setting_in grid zs) Start l h (is_setting grid zs)
numbered_line grid word.Target zs l h = made_line _ (setting_in grid zs) Target l h (is_setting grid zs)
numbered_line grid word.Team zs l h = made_line _ (team_in zs) Team l h (is_team zs)

-- a line between the first and the last
pub job_line : (grid : Grid) (line : List ℕ) (l : JobLine) → line_in grid line ≡ Ok l
    → IsLine (stops_of grid) l
unfolding line_in worded
job_line grid line l h = by_test (bytes_eq line (codes "targets fold")) h
  where
    worded_line : (words : List (List ℕ)) → worded grid words ≡ Ok l → IsLine (stops_of grid) l
    worded_line [] e = cc
    worded_line (w ∷ ws) e =
        let keyword = both (ok_or (keyword_in w) BadLine) _ l e in
        let numbers = both (numbers_in ws) _ l keyword.2 in
        numbered_line grid keyword.0 numbers.0 l numbers.2

    by_test : (b : Bool) → cond b (Ok TargetsFold) (worded grid (words_of line)) ≡ Ok l
        → IsLine (stops_of grid) l
    by_test true e = subst (IsLine (stops_of grid)) (same_ok TargetsFold l _ refl e) tt
    by_test false e = worded_line (words_of line) e
