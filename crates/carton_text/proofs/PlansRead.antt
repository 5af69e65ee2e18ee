-- A text that is read as a plan is the plan's spelling, and the plan keeps the rules.
use Rattle.std.proofs.Common.{◌≡◌, ℕ, ◌≤◌, ◌<◌, ℤ, Bool, true, false, cond, eqb, leb, List, [], ◌∷◌, ◌++◌}
use Rattle.std.proofs.Common.{length, length-append, map, Result, Ok, Err, IfOk, refl, sym, ap, subst, ◌∙◌}
use Rattle.std.proofs.Common.{arith, append_assoc, bytes_eq, codes}
use Rattle.std.specs.Prelude.{All}
use Rattle.std.specs.List.{AllByRecursion, flat_map}
use Rattle.std.proofs.lemmas.Bool.{leb-false, eqb-false, not-true}
use Rattle.std.proofs.lemmas.List.{append-nil, length-map}
use Rattle.std.proofs.lemmas.List.Elements.{All-nil, All-push, All-from_recursion, recursion_from_All}
use Rattle.std.proofs.lemmas.Grind.{flat_map-append}
use Rattle.std.proofs.lemmas.Slice.Eq.{bytes_eq-Decides}
use Rattle.carton_base.specs.declared.ids.EdgeId.{EdgeId}
use Rattle.carton_base.specs.declared.limits.TheConstants.{MOST_JOINTS, MOST_STATES}
use Rattle.carton_base.specs.declared.motion.State.{State}
use Rattle.carton_base.specs.Steps.{refuse_if}
use Rattle.carton_base.proofs.Steps.{both, same_ok, not_refused}
use Rattle.carton_model.specs.Moves.{IsStop, IsState}
use Rattle.carton_lines.specs.declared.fault.Fault.TheVariants.{BadLine, Range}
use Rattle.carton_lines.specs.declared.fault.LineError.{LineError}
use Rattle.carton_text.specs.declared.grid.Grid.{Grid}
use Rattle.carton_text.specs.declared.grid.Grid.TheVariants.{Eight, Sixteen}
use Rattle.carton_text.specs.declared.plan.Plan.{Plan}
use Rattle.carton_text.specs.declared.plan_text.PlanReading.{PlanReading}
use Rattle.carton_text.specs.declared.plan_text.PlanReading.TheVariants.{Headed, Within}
use Rattle.carton_text.specs.Grids.{stops_of}
use Rattle.carton_lines.specs.Lines.{GivesLines}
use Rattle.carton_lines.specs.StrictLines.{spelled}
use Rattle.carton_lines.specs.Readings.{strictly_read}
use Rattle.carton_lines.specs.Spellings.{fed}
use Rattle.carton_text.specs.PlainPlans.{PlainState, PlainPlan, PlanSoFar, plain_state, plain}
use Rattle.carton_text.specs.PlanRules.{AreCreases, grid_of, AreStates, IsPlan}
use Rattle.carton_text.specs.Plans.{grid_told, creases_told, stops_told, state_of, with_state, begun}
use Rattle.carton_text.specs.Plans.{plan_line, plan_lines, plan_told, plan_of, first_line, creases_line}
use Rattle.carton_text.specs.Plans.{state_line, spelling}
use Rattle.carton_lines.proofs.Spellings.{strictly_kept}
use Rattle.carton_text.proofs.PlanStops.{first_stops, first_of_all, joints_first, state_is}
use Rattle.carton_text.proofs.PlanEntries.{IsRow, creases_are, row_is}

-- a state of these stops was told
record IsTold (grid : Grid) (joints : ℕ) (t : PlainState) : Type 0 where
  stops : List ℤ
  row : IsRow grid joints stops
  is : t ≡ state_of grid stops

abbrev plain_line : ℕ → PlainState → List ℕ
plain_line joints t = spelled (codes "state") (first_stops joints t.stops)

row_line : (grid : Grid) (joints : ℕ) (zs : List ℤ) → IsRow grid joints zs → joints ≤ MOST_JOINTS
    → plain_line joints (state_of grid zs) ≡ spelled (codes "state") zs
row_line grid joints zs row few =
    ap (λ (ys : List ℤ). spelled (codes "state") ys) (first_of_all joints zs row.count few)

-- one line more tells a state
record IsMore (d e : PlanSoFar) (line : List ℕ) : Type 0 where
  state : PlainState
  all : e ≡ record d { states = d.states ++ state ∷ [] }
  told : IsTold d.grid (length d.creases) state
  room : length d.states < MOST_STATES
  text : line ++ codes "\n" ≡ plain_line (length d.creases) state

one_more : (d e : PlanSoFar) (line : List ℕ) → length d.creases ≤ MOST_JOINTS → with_state d line ≡ Ok e
    → IsMore d e line
unfolding with_state
one_more d e line few h =
    let stops = both (stops_told d.grid (length d.creases) line) _ e h in
    let room = both (refuse_if (leb MOST_STATES (length d.states)) Range) _ e stops.2 in
    let row = row_is d.grid (length d.creases) line stops.0 stops.1 in
    record {
      state = state_of d.grid stops.0;
      all = sym (same_ok (record d { states = d.states ++ state_of d.grid stops.0 ∷ [] }) e _ refl room.2);
      told = record { stops = stops.0; row = row.0; is = refl };
      room = leb-false MOST_STATES (length d.states) (not_refused _ Range room.0 room.1);
      text = ap (λ (bs : List ℕ). bs ++ codes "\n") row.1
          ∙ sym (row_line d.grid (length d.creases) stops.0 row.0 few);
    }

-- the line of the grid
grid_line : (line : List ℕ) (grid : Grid) → grid_told line ≡ Ok grid
    → line ++ codes "\n" ≡ first_line (stops_of grid)
unfolding grid_told
grid_line line grid h = by_eight (bytes_eq line (codes "carton plan 1")) refl h
  where
    by_sixteen : (b : Bool) → bytes_eq line (codes "carton plan 2") ≡ b → cond b (Ok Sixteen) (Err BadLine)
        ≡ Ok grid → line ++ codes "\n" ≡ first_line (stops_of grid)
    by_sixteen true t g =
        let is : Sixteen ≡ grid = same_ok Sixteen grid _ refl g in
        ap (λ (bs : List ℕ). bs ++ codes "\n") ((bytes_eq-Decides line (codes "carton plan 2")).0 t)
        ∙ ap (λ k. first_line (stops_of k)) is
    by_sixteen false t g = cc

    by_eight : (b : Bool) → bytes_eq line (codes "carton plan 1") ≡ b
        → cond b (Ok Eight) (cond (bytes_eq line (codes "carton plan 2")) (Ok Sixteen) (Err BadLine))
        ≡ Ok grid → line ++ codes "\n" ≡ first_line (stops_of grid)
    by_eight true t g =
        let is : Eight ≡ grid = same_ok Eight grid _ refl g in
        ap (λ (bs : List ℕ). bs ++ codes "\n") ((bytes_eq-Decides line (codes "carton plan 1")).0 t)
        ∙ ap (λ k. first_line (stops_of k)) is
    by_eight false t g = by_sixteen (bytes_eq line (codes "carton plan 2")) refl g

-- what the lines up to a state have told, and their text
record IsSoFar (d : PlanSoFar) (bytes : List ℕ) : Type 0 where
  are : AreCreases d.creases
  told : All (IsTold d.grid (length d.creases)) d.states
  few : length d.states ≤ MOST_STATES
  text : bytes ≡ first_line (stops_of d.grid)
      ++ (creases_line d.creases ++ flat_map (plain_line (length d.creases)) d.states)

abbrev SoFar : PlanReading → List ℕ → Type 0
SoFar (Headed grid) bytes = bytes ≡ first_line (stops_of grid)
SoFar (Within d) bytes = IsSoFar d bytes

first_told : (line : List ℕ) (r : PlanReading) → begun line ≡ Ok r → SoFar r (fed line)
first_told line r h =
    let grid = both (grid_told line) _ r h in
    subst (λ x. SoFar x (fed line)) (same_ok (Headed grid.0) r _ refl grid.2) (grid_line line grid.0 grid.1)

creases_next : (grid : Grid) (creases : List EdgeId) (line bytes : List ℕ)
    → bytes ≡ first_line (stops_of grid) → creases_told line ≡ Ok creases
    → IsSoFar (record { grid = grid; creases = creases; states = [] }) (bytes ++ fed line)
creases_next grid creases line bytes text h =
    let is = creases_are line creases h in
    record {
      are = is.0;
      told = All-nil (IsTold grid (length creases));
      few = omega arith;
      text = (λ i. text i ++ fed (is.1 i))
          ∙ ap (λ (bs : List ℕ). first_line (stops_of grid) ++ bs) (sym (append-nil (creases_line creases)));
    }

state_next : (d e : PlanSoFar) (line bytes : List ℕ) → IsSoFar d bytes → IsMore d e line
    → IsSoFar e (bytes ++ fed line)
state_next d e line bytes k one =
    let joints = length d.creases in
    let all : PlanSoFar = record d { states = d.states ++ one.state ∷ [] } in
    let states = flat_map (plain_line joints) d.states in
    let room = one.room in
    let so_far : IsSoFar all (bytes ++ fed line) = record {
      are = k.are;
      told = All-push (IsTold d.grid joints) d.states one.state k.told one.told;
      few = omega (arith, length-append d.states (one.state ∷ []), room);
      text = (λ i. k.text i ++ one.text i)
          ∙ append_assoc (first_line (stops_of d.grid)) (creases_line d.creases ++ states)
          (plain_line joints one.state)
          ∙ ap (λ (bs : List ℕ). first_line (stops_of d.grid)
          ++ bs) (append_assoc (creases_line d.creases) states (plain_line joints one.state))
          ∙ ap (λ (bs : List ℕ). first_line (stops_of d.grid) ++ (creases_line d.creases ++ (states ++ bs)))
          (sym (append-nil (plain_line joints one.state)))
          ∙ ap (λ (bs : List ℕ). first_line (stops_of d.grid) ++ (creases_line d.creases ++ bs))
          (sym (flat_map-append (plain_line joints) d.states (one.state ∷ [])));
    } in
    subst (λ x. IsSoFar x (bytes ++ fed line)) (sym one.all) so_far

later_told : (r s : PlanReading) (n : ℕ) (line bytes : List ℕ) → SoFar r bytes → plan_line r n line ≡ Ok s
    → SoFar s (bytes ++ fed line)
later_told (Headed grid) s n line bytes k h =
    let creases = both (creases_told line) _ s h in
    subst (λ x. SoFar x (bytes ++ fed line))
    (same_ok (Within (record { grid = grid; creases = creases.0; states = [] })) s _ refl creases.2)
    (creases_next grid creases.0 line bytes k creases.1)
later_told (Within d) s n line bytes k h =
    let e = both (with_state d line) _ s h in
    let few = k.are.few in
    let one = one_more d e.0 line (omega (arith, few)) e.1 in
    subst (λ x. SoFar x (bytes ++ fed line)) (same_ok (Within e.0) s _ refl e.2)
    (state_next d e.0 line bytes k one)

-- a state that was told
record IsOn (grid : Grid) (joints : ℕ) (s : State) : Type 0 where
  grid_is : s.grid ≡ stops_of grid
  is : IsState joints s

state_on : (grid : Grid) (joints : ℕ) (s : State) → joints ≤ MOST_JOINTS → IsTold grid joints (plain_state s)
    → IsOn grid joints s
state_on grid joints s few told =
    let g : s.grid ≡ stops_of grid = ap (λ (t : PlainState). t.grid) told.is in
    record {
      grid_is = g;
      is = state_is joints told.stops s told.row.count few
          (subst (λ n. AllByRecursion (IsStop n) told.stops) (sym g) told.row.near)
          (ap (λ (t : PlainState). t.stops) told.is);
    }

states_on : (grid : Grid) (joints : ℕ) (ss : List State) → joints ≤ MOST_JOINTS
    → AllByRecursion (IsTold grid joints) (map plain_state ss) → AllByRecursion (IsOn grid joints) ss
states_on grid joints [] few told = tt
states_on grid joints (s ∷ ss) few told =
    (state_on grid joints s few told.0, states_on grid joints ss few told.1)

grid_told_is : (grid : Grid) (joints : ℕ) (ss : List State) → 1 ≤ length ss
    → AllByRecursion (IsOn grid joints) ss → grid_of ss ≡ stops_of grid
grid_told_is grid joints [] some on = absurd (omega arith)
grid_told_is grid joints (s ∷ ss) some on = on.0.grid_is

are_states : (grid : Grid) (joints : ℕ) (ss : List State) → 1 ≤ length ss → length ss ≤ MOST_STATES
    → AllByRecursion (IsOn grid joints) ss → AreStates joints ss
are_states grid joints ss some few on =
    let all = All-from_recursion (IsOn grid joints) ss on in
    record {
      some = some;
      few = few;
      each = λ k d lt. (all k d lt).is;
      one_grid = λ k d lt. (all k d lt).grid_is ∙ sym (grid_told_is grid joints ss some on);
    }

lines_same : (joints : ℕ) (ss : List State) → joints ≤ MOST_JOINTS
    → flat_map (plain_line joints) (map plain_state ss) ≡ flat_map (state_line joints) ss
lines_same joints [] few = refl
lines_same joints (s ∷ ss) few =
    λ i. spelled (codes "state") (sym (joints_first joints s few) i) ++ lines_same joints ss few i

-- the plan that was read
is_plan : (p : Plan) (grid : Grid) (bytes : List ℕ)
    → IsSoFar (record { grid = grid; creases = p.creases; states = map plain_state p.states }) bytes
    → 1 ≤ length p.states
    → IsPlan p × (bytes ++ codes "end\n" ≡ spelling p)
is_plan p grid bytes h some =
    let joints = length p.creases in
    let few : joints ≤ MOST_JOINTS = let n = h.are.few in omega (arith, n) in
    let on = states_on grid joints p.states few
    (recursion_from_All (IsTold grid joints) (map plain_state p.states) h.told) in
    let count = length-map p.states plain_state in
    let states = flat_map (state_line joints) p.states in
    let first = first_line (stops_of grid) in
    let most = h.few in (
      record {
        creases = h.are;
        states = are_states grid joints p.states some (omega (arith, count, most)) on;
      },
      ap (λ (bs : List ℕ). bs ++ codes "end\n")
          (h.text
          ∙ ap (λ (bs : List ℕ). first ++ (creases_line p.creases ++ bs)) (lines_same joints p.states few))
          ∙ append_assoc first (creases_line p.creases ++ states) (codes "end\n")
          ∙ (λ i. first_line (sym (grid_told_is grid joints p.states some on) i)
          ++ append_assoc (creases_line p.creases) states (codes "end\n") i),
    )

-- a text that is read as a plan
pub plan_read : (bytes : List ℕ) (p : Plan) → plan_of bytes ≡ Ok (plain p) → IsPlan p × (bytes ≡ spelling p)
unfolding plan_of
plan_read bytes p h =
    let a = both (strictly_read plan_lines bytes) plan_told (plain p) h in
    by_reading a.0 a.1 a.2
  where
    by_reading : (r : PlanReading) → strictly_read plan_lines bytes ≡ Ok r → plan_told r ≡ Ok (plain p)
        → IsPlan p × (bytes ≡ spelling p)
    by_reading (Headed grid) read told = cc
    by_reading (Within d) read told =
        let text = strictly_kept plan_lines SoFar first_told later_told bytes (Within d) read in
        let same : record { creases = d.creases; states = d.states } ≡ plain p =
        same_ok (record { creases = d.creases; states = d.states }) (plain p) _ refl told in
        let whole_plan : d ≡ record {
          grid = d.grid;
          creases = p.creases;
          states = map plain_state p.states;
        } =
        λ i. record { grid = d.grid; creases = (same i).creases; states = (same i).states } in
        let count : length d.states ≡ length p.states = ap (λ (x : PlainPlan). length x.states) same
        ∙ length-map p.states plain_state in
        let other = eqb-false (length d.states) 0 (not-true (eqb (length d.states) 0) text.ends) in
        let some : 1 ≤ length p.states = grind (arith) in
        let is = is_plan p d.grid text.before (subst (λ e. IsSoFar e text.before) whole_plan text.told)
        some in
        (is.0, text.text ∙ is.1)

-- what a reading gave keeps the rules
pub keeps_rules : (bytes : List ℕ) (r : PlanReading) (out : Result Plan LineError)
    → strictly_read plan_lines bytes ≡ Ok r → GivesLines plain out (plan_told r) → IfOk out IsPlan
unfolding plan_of
keeps_rules bytes r (Ok p) read told = let whole_text : plan_of bytes ≡ Ok (plain p) = rw read told in
    (plan_read bytes p whole_text).0
keeps_rules bytes r (Err e) read told = tt
