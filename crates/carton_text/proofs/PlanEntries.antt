-- The creases and the states of a plan that was read, and their lines.
use Rattle.std.proofs.Common.{◌≡◌, ℕ, ◌+◌, ◌*◌, ◌≤◌, ℤ, pos, negsuc, unsigned_abs, true, false, ◌&&◌, not}
use Rattle.std.proofs.Common.{eqb, leb, ltb, List, [], ◌∷◌, ◌++◌, length, Result, Ok, refl, sym, ap, subst}
use Rattle.std.proofs.Common.{◌∙◌, arith, codes}
use Rattle.std.specs.List.{AllByRecursion, flat_map}
use Rattle.std.proofs.lemmas.Bool.{leb-true, le-leb, le-ltb, ltb-false, eqb-true, eq-eqb, and_parts}
use Rattle.std.proofs.lemmas.Bool.{not-false}
use Rattle.std.proofs.lemmas.List.{length-map}
use Rattle.std.proofs.lemmas.List.Elements.{All-from_recursion, recursion_from_All}
use Rattle.carton_base.specs.declared.ids.EdgeId.{EdgeId}
use Rattle.carton_base.specs.Steps.{refuse_if, entries_from}
use Rattle.carton_base.proofs.Steps.{both, same_ok, not_refused, only_if}
use Rattle.carton_model.specs.Moves.{IsStop}
use Rattle.carton_lines.specs.declared.fault.Fault.{Fault}
use Rattle.carton_lines.specs.declared.fault.Fault.TheVariants.{BadLine, Range}
use Rattle.carton_text.specs.declared.grid.Grid.{Grid}
use Rattle.carton_text.specs.declared.grid.Grid.TheVariants.{Eight, Sixteen}
use Rattle.carton_text.specs.declared.job_line.TheConstants.{LAST_EDGE}
use Rattle.carton_text.specs.declared.plan.TheConstants.{MOST_CREASES}
use Rattle.carton_text.specs.Grids.{stops_of}
use Rattle.carton_lines.specs.Numbers.{from_to, at_most}
use Rattle.carton_lines.specs.Lines.{words_of}
use Rattle.carton_lines.specs.StrictLines.{numbers_after, spaced}
use Rattle.carton_text.specs.JobLines.{edge_in}
use Rattle.carton_text.specs.JobRules.{IsEdgeNumber}
use Rattle.carton_text.specs.PlanRules.{AreCreases}
use Rattle.carton_text.specs.Plans.{is_increasing, creases_told, stops_told}
use Rattle.carton_text.proofs.Rising.{numbers_of, all_rising, told_rising}
use Rattle.carton_lines.proofs.SpelledLines.{AreSmall, lacks, line_spelled, spelled_line}

edge_is : (z : ℤ) (e : EdgeId) → edge_in z ≡ Ok e → (z ≡ pos e.0) × IsEdgeNumber e
edge_is (pos n) e h =
    let made : ℕ → Result EdgeId Fault = λ m. Ok (record { 0 = m }) in
    let a = both (from_to 0 LAST_EDGE (pos n)) made e h in
    let p = only_if (leb 0 n && leb n LAST_EDGE) Range n a.0 a.1 in
    let is : record { 0 = a.0 } ≡ e = same_ok (record { 0 = a.0 }) e _ refl a.2 in
    let upto = leb-true n LAST_EDGE (and_parts (leb 0 n) (leb n LAST_EDGE) p.0).1 in
    let same : n ≡ e.0 = sym p.1 ∙ ap (λ (d : EdgeId). d.0) is in
    (ap pos same, omega (arith, same, upto))
edge_is (negsuc n) e h = cc

pub edge_told : (e : EdgeId) → IsEdgeNumber e → edge_in (pos e.0) ≡ Ok e
edge_told e h =
    let low : leb 0 e.0 ≡ true = le-leb 0 e.0 (omega arith) in
    let high : leb e.0 LAST_EDGE ≡ true = le-leb e.0 LAST_EDGE (omega (arith, h)) in
    rw (low, high) refl

edges_are : (i : ℕ) (zs : List ℤ) (es : List EdgeId) → entries_from (λ i. edge_in) i zs ≡ Ok es
    → (zs ≡ numbers_of es) × AllByRecursion IsEdgeNumber es
unfolding entries_from
edges_are i [] es h =
    let none : [] ≡ es = same_ok [] es _ refl h in
    (ap numbers_of none, subst (AllByRecursion IsEdgeNumber) none tt)
edges_are i (z ∷ zs) es h =
    let a = both (edge_in z) _ es h in
    let b = both (entries_from (λ i. edge_in) (i + 1) zs) _ es a.2 in
    let more : a.0 ∷ b.0 ≡ es = same_ok (a.0 ∷ b.0) es _ refl b.2 in
    let first = edge_is z a.0 a.1 in
    let rest = edges_are (i + 1) zs b.0 b.1 in (
      (λ j. first.0 j ∷ rest.0 j)
          ∙ ap numbers_of more,
      subst (AllByRecursion IsEdgeNumber) more (first.1, rest.1),
    )

pub edges_told : (i : ℕ) (es : List EdgeId) → AllByRecursion IsEdgeNumber es
    → entries_from (λ i. edge_in) i (numbers_of es) ≡ Ok es
unfolding entries_from
edges_told i [] h = refl
edges_told i (e ∷ es) h = rw (edge_told e h.0, edges_told (i + 1) es h.1) refl

pub small_edges : (es : List EdgeId) → AllByRecursion IsEdgeNumber es → AreSmall (numbers_of es)
small_edges [] h = tt
small_edges (e ∷ es) h = (omega (arith, h.0), small_edges es h.1)

-- the creases that a line tells, and that line
pub creases_are : (line : List ℕ) (es : List EdgeId) → creases_told line ≡ Ok es → AreCreases es
    × (line ≡ codes "creases" ++ flat_map spaced (numbers_of es))
unfolding creases_told
creases_are line es h =
    let zs = both (numbers_after (codes "creases") (words_of line)) _ es h in
    let up = both (refuse_if (not (is_increasing zs.0)) BadLine) _ es zs.2 in
    let few = both (refuse_if (ltb MOST_CREASES (length zs.0)) Range) _ es up.2 in
    let are = edges_are 0 zs.0 es few.2 in
    let rising = not-false (is_increasing zs.0) (not_refused _ BadLine up.0 up.1) in
    let count : length zs.0 ≡ length es = ap (length {A = ℤ}) are.0
    ∙ length-map es (λ (e : EdgeId). pos e.0) in
    let most = ltb-false MOST_CREASES (length zs.0) (not_refused _ Range few.0 few.1) in (
      record {
        few = omega (arith, most, count);
        each = All-from_recursion IsEdgeNumber es are.1;
        rising = all_rising es (subst (λ ys. is_increasing ys ≡ true) are.0 rising);
      },
      line_spelled (codes "creases") line zs.0 zs.1 (subst AreSmall (sym are.0) (small_edges es are.1))
          ∙ ap (λ (ys : List ℤ). codes "creases" ++ flat_map spaced ys) are.0,
    )

pub creases_spelled : (es : List EdgeId) → AreCreases es
    → creases_told (codes "creases" ++ flat_map spaced (numbers_of es)) ≡ Ok es
unfolding creases_told
creases_spelled es h =
    let each = recursion_from_All IsEdgeNumber es h.each in
    let numbers = spelled_line (codes "creases") (numbers_of es) (lacks 32 (codes "creases") refl)
    (small_edges es each) in
    let few : ltb MOST_CREASES (length (numbers_of es)) ≡ false =
    le-ltb _ _ (omega (arith, h.few, length-map es (λ (e : EdgeId). pos e.0))) in
    rw (numbers, told_rising es h.rising, few) (edges_told 0 es each)

-- a stop for each of so many joints
pub record IsRow (grid : Grid) (joints : ℕ) (zs : List ℤ) : Type 0 where
  pub count : length zs ≡ joints
  pub near : AllByRecursion (IsStop (stops_of grid)) zs

stops_are : (most i : ℕ) (zs stops : List ℤ) → entries_from (λ i. at_most most) i zs ≡ Ok stops → (zs ≡ stops)
    × AllByRecursion (λ z. unsigned_abs z ≤ most) stops
unfolding entries_from
stops_are most i [] stops h =
    let none : [] ≡ stops = same_ok [] stops _ refl h in
    (none, subst (AllByRecursion (λ z. unsigned_abs z ≤ most)) none tt)
stops_are most i (z ∷ zs) stops h =
    let a = both (at_most most z) _ stops h in
    let b = both (entries_from (λ i. at_most most) (i + 1) zs) _ stops a.2 in
    let more : a.0 ∷ b.0 ≡ stops = same_ok (a.0 ∷ b.0) stops _ refl b.2 in
    let p = only_if (leb (unsigned_abs z) most) Range z a.0 a.1 in
    let near : unsigned_abs a.0 ≤ most = subst (λ y. unsigned_abs y ≤ most) (sym p.1) (leb-true _ _ p.0) in
    let rest = stops_are most (i + 1) zs b.0 b.1 in (
      (λ j. sym p.1 j ∷ rest.0 j)
          ∙ more,
      subst (AllByRecursion (λ z. unsigned_abs z ≤ most)) more (near, rest.1),
    )

pub stops_near : (most i : ℕ) (zs : List ℤ) → AllByRecursion (λ z. unsigned_abs z ≤ most) zs
    → entries_from (λ i. at_most most) i zs ≡ Ok zs
unfolding entries_from
stops_near most i [] h = refl
stops_near most i (z ∷ zs) h =
    let test : leb (unsigned_abs z) most ≡ true = le-leb _ _ h.0 in
    rw (test, stops_near most (i + 1) zs h.1) refl

pub few_stops : (grid : Grid) → 2 * stops_of grid ≤ 32
few_stops Eight = omega arith
few_stops Sixteen = omega arith

small_stops : (grid : Grid) (zs : List ℤ) → AllByRecursion (IsStop (stops_of grid)) zs → AreSmall zs
small_stops grid [] h = tt
small_stops grid (z ∷ zs) h = (omega (arith, h.0, few_stops grid), small_stops grid zs h.1)

-- the stops that a line tells, and that line
pub row_is : (grid : Grid) (joints : ℕ) (line : List ℕ) (stops : List ℤ) → stops_told grid joints line
    ≡ Ok stops → IsRow grid joints stops × (line ≡ codes "state" ++ flat_map spaced stops)
unfolding stops_told
row_is grid joints line stops h =
    let zs = both (numbers_after (codes "state") (words_of line)) _ stops h in
    let as_many = both (refuse_if (not (eqb (length zs.0) joints)) BadLine) _ stops zs.2 in
    let are = stops_are (2 * stops_of grid) 0 zs.0 stops as_many.2 in
    let count = eqb-true (length zs.0) joints
    (not-false (eqb (length zs.0) joints) (not_refused _ BadLine as_many.0 as_many.1)) in (
      record { count = ap (length {A = ℤ}) (sym are.0) ∙ count; near = are.1 },
      line_spelled (codes "state") line zs.0 zs.1 (subst AreSmall (sym are.0) (small_stops grid stops are.1))
          ∙ ap (λ (ys : List ℤ). codes "state" ++ flat_map spaced ys) are.0,
    )

pub row_spelled : (grid : Grid) (joints : ℕ) (zs : List ℤ) → IsRow grid joints zs
    → stops_told grid joints (codes "state" ++ flat_map spaced zs) ≡ Ok zs
unfolding stops_told
row_spelled grid joints zs h =
    let numbers = spelled_line (codes "state") zs (lacks 32 (codes "state") refl)
    (small_stops grid zs h.near) in
    rw (numbers, eq-eqb (length zs) joints h.count) (stops_near (2 * stops_of grid) 0 zs h.near)

pub row_small : (grid : Grid) (joints : ℕ) (zs : List ℤ) → IsRow grid joints zs → AreSmall zs
row_small grid joints zs h = small_stops grid zs h.near

pub creases_small : (es : List EdgeId) → AreCreases es → AreSmall (numbers_of es)
creases_small es h = small_edges es (recursion_from_All IsEdgeNumber es h.each)
