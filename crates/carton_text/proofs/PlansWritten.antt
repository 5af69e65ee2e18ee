-- The spelling of a plan that keeps the rules is read as that plan.
use Rattle.std.specs.Prelude.{All}
use Rattle.std.proofs.Common.{◌≡◌, ℕ, ◌+◌, ◌≤◌, ◌<◌, true, false, not, eqb, leb, List, [], ◌∷◌, ◌++◌, length}
use Rattle.std.proofs.Common.{length-append, map, Ok, refl, sym, ap, subst, ◌∙◌, arith, append_assoc, codes}
use Rattle.std.proofs.Common.{⊎_elim}
use Rattle.std.specs.List.{AllByRecursion, flat_map, concat}
use Rattle.std.proofs.lemmas.Bool.{lt-leb, ne_eqb, or_cases, eqb-true}
use Rattle.std.proofs.lemmas.List.{append-nil, length-map}
use Rattle.std.proofs.lemmas.List.Elements.{All-head, All-tail}
use Rattle.carton_base.specs.declared.ids.EdgeId.{EdgeId}
use Rattle.carton_base.specs.declared.limits.TheConstants.{MOST_STATES}
use Rattle.carton_base.specs.declared.motion.State.{State}
use Rattle.carton_base.specs.Grid.{IsGrid}
use Rattle.carton_model.specs.Moves.{IsStop, IsState}
use Rattle.carton_text.specs.declared.grid.Grid.{Grid}
use Rattle.carton_text.specs.declared.grid.Grid.TheVariants.{Eight, Sixteen}
use Rattle.carton_text.specs.declared.plan.Plan.{Plan}
use Rattle.carton_text.specs.declared.plan_text.PlanReading.TheVariants.{Headed, Within}
use Rattle.carton_text.specs.Grids.{stops_of}
use Rattle.carton_lines.specs.Lines.{next_number}
use Rattle.carton_lines.specs.StrictLines.{spaced}
use Rattle.carton_lines.specs.Spellings.{fed, take_all}
use Rattle.carton_text.specs.PlainPlans.{PlainState, PlanSoFar, plain_state, plain}
use Rattle.carton_text.specs.PlanRules.{AreCreases, grid_of, IsPlan}
use Rattle.carton_text.specs.Plans.{grid_told, state_of, with_state, begun, plan_line, plan_lines, plan_of}
use Rattle.carton_text.specs.Plans.{first_line, creases_line, joint_stops, state_line, spelling}
use Rattle.carton_text.proofs.Rising.{numbers_of}
use Rattle.carton_lines.proofs.SpelledLines.{Lacks, lacks, line_lacks}
use Rattle.carton_lines.proofs.Spellings.{IsInner, inner_lines, text_of_each, one_taken, spelled_read}
use Rattle.carton_text.proofs.PlanStops.{all_of_joints, near_joints, count_joints}
use Rattle.carton_text.proofs.PlanEntries.{IsRow, creases_spelled, creases_small, row_spelled, row_small}

-- a state on the grid
record IsOn (grid : Grid) (joints : ℕ) (s : State) : Type 0 where
  grid_is : s.grid ≡ stops_of grid
  is : IsState joints s

row : (grid : Grid) (joints : ℕ) (s : State) → IsOn grid joints s → IsRow grid joints (joint_stops joints s)
row grid joints s on =
    record {
      count = count_joints joints s;
      near = subst (λ g. AllByRecursion (IsStop g) (joint_stops joints s)) on.grid_is
          (near_joints joints s on.is);
    }

same_state : (grid : Grid) (joints : ℕ) (s : State) → IsOn grid joints s
    → state_of grid (joint_stops joints s) ≡ plain_state s
same_state grid joints s on = λ i. record { grid = sym on.grid_is i; stops = all_of_joints joints s on.is i }

abbrev words : ℕ → State → List ℕ
words joints s = codes "state" ++ flat_map spaced (joint_stops joints s)

state_told : (d : PlanSoFar) (s : State) (n : ℕ) → IsOn d.grid (length d.creases) s
    → length d.states < MOST_STATES
    → plan_line (Within d) n (words (length d.creases) s)
    ≡ Ok (Within (record d { states = d.states ++ plain_state s ∷ [] }))
unfolding with_state
state_told d s n on room =
    let joints = length d.creases in
    let told = row_spelled d.grid joints (joint_stops joints s) (row d.grid joints s on) in
    let free : leb MOST_STATES (length d.states) ≡ false = lt-leb _ _ room in
    rw (told, free, same_state d.grid joints s on) refl

-- the lines of states tell them
states_told : (grid : Grid) (creases : List EdgeId) (told : List PlainState) (ss : List State) (n : ℕ)
    → AllByRecursion (IsOn grid (length creases)) ss → length told + length ss ≤ MOST_STATES
    → take_all plan_lines (Within (record { grid = grid; creases = creases; states = told })) n (map
    (words (length creases)) ss)
    ≡ Ok (Within (record { grid = grid; creases = creases; states = told ++ map plain_state ss }))
unfolding take_all
states_told grid creases told [] n on few =
    λ i. Ok (Within (record { grid = grid; creases = creases; states = sym (append-nil told) i }))
states_told grid creases told (s ∷ ss) n on few =
    let d : PlanSoFar = record { grid = grid; creases = creases; states = told } in
    let e : PlanSoFar = record { grid = grid; creases = creases; states = told ++ plain_state s ∷ [] } in
    let one = state_told d s (next_number n) on.0 (omega (arith, few)) in
    let count = length-append told (plain_state s ∷ []) in
    let more = states_told grid creases (told ++ plain_state s ∷ []) ss (next_number n) on.1
    (omega (arith, count, few)) in
    one_taken plan_lines (Within d) (Within e) n (words (length creases) s) (map (words (length creases))
    ss) one ∙ more
    ∙ (λ i.
    Ok (Within
    (record {
      grid = grid;
      creases = creases;
      states = append_assoc told (plain_state s ∷ []) (map plain_state ss) i;
    })))

state_inner : (grid : Grid) (joints : ℕ) (s : State) → IsOn grid joints s → IsInner (words joints s)
state_inner grid joints s on = (
  line_lacks 10 (omega arith) (codes "state") (joint_stops joints s) (lacks 10 (codes "state") refl)
      (row_small grid joints (joint_stops joints s) (row grid joints s on)),
  refl,
)

abbrev crease_words : List EdgeId → List ℕ
crease_words creases = codes "creases" ++ flat_map spaced (numbers_of creases)

creases_inner : (creases : List EdgeId) → AreCreases creases → IsInner (crease_words creases)
creases_inner creases are = (
  line_lacks 10 (omega arith) (codes "creases") (numbers_of creases) (lacks 10 (codes "creases") refl)
      (creases_small creases are),
  refl,
)

creases_first : (grid : Grid) (creases : List EdgeId) (n : ℕ) → AreCreases creases
    → plan_line (Headed grid) n (crease_words creases)
    ≡ Ok (Within (record { grid = grid; creases = creases; states = [] }))
creases_first grid creases n are = rw (creases_spelled creases are) refl

-- the lines of creases and states tell them
lines_told : (grid : Grid) (creases : List EdgeId) (ss : List State) (n : ℕ) → AreCreases creases
    → AllByRecursion (IsOn grid (length creases)) ss → length ss ≤ MOST_STATES
    → take_all plan_lines (Headed grid) n (crease_words creases ∷ map (words (length creases)) ss)
    ≡ Ok (Within (record { grid = grid; creases = creases; states = map plain_state ss }))
lines_told grid creases ss n are on few =
    let d : PlanSoFar = record { grid = grid; creases = creases; states = [] } in
    one_taken plan_lines (Headed grid) (Within d) n (crease_words creases) (map (words (length creases)) ss)
    (creases_first grid creases (next_number n) are)
    ∙ states_told grid creases [] ss (next_number n) on (omega (arith, few))

abbrev first_words : Grid → List ℕ
first_words Eight = codes "carton plan 1"
first_words Sixteen = codes "carton plan 2"

first_lacks : (grid : Grid) → Lacks 10 (first_words grid)
first_lacks Eight = lacks 10 (codes "carton plan 1") refl
first_lacks Sixteen = lacks 10 (codes "carton plan 2") refl

first_is : (grid : Grid) → first_line (stops_of grid) ≡ fed (first_words grid)
first_is Eight = refl
first_is Sixteen = refl

first_begins : (grid : Grid) → begun (first_words grid) ≡ Ok (Headed grid)
unfolding grid_told
first_begins Eight = refl
first_begins Sixteen = refl

-- the grid of a number
record IsGridOf (n : ℕ) : Type 0 where
  grid : Grid
  is : n ≡ stops_of grid

grid_named : (n : ℕ) → IsGrid n → IsGridOf n
grid_named n h = ⊎_elim
    (λ eight. record { grid = Eight; is = eqb-true n 8 eight })
    (λ sixteen. record { grid = Sixteen; is = eqb-true n 16 sixteen })
    (or_cases (eqb n 8) (eqb n 16) h)

states_on : (grid : Grid) (joints g : ℕ) (ss : List State) → g ≡ stops_of grid → All (IsState joints) ss
    → All (λ s. s.grid ≡ g) ss → AllByRecursion (IsOn grid joints) ss
states_on grid joints g [] e are one = tt
states_on grid joints g (s ∷ ss) e are one = (
  record { grid_is = All-head (λ t. t.grid ≡ g) s ss one ∙ e; is = All-head (IsState joints) s ss are },
  states_on grid joints g ss e (All-tail (IsState joints) s ss are) (All-tail (λ t. t.grid ≡ g) s ss one),
)

first_grid : (ss : List State) → 1 ≤ length ss → IsGridOf (grid_of ss)
first_grid [] some = absurd (omega arith)
first_grid (s ∷ ss) some = grid_named s.grid s.on_grid

-- the spelling of a plan
pub plan_spelled : (p : Plan) → IsPlan p → plan_of (spelling p) ≡ Ok (plain p)
unfolding plan_of
plan_spelled p is =
    let joints = length p.creases in
    let some = is.states.some in
    let g = first_grid p.states some in
    let on = states_on g.grid joints (grid_of p.states) p.states g.is is.states.each is.states.one_grid in
    let between = crease_words p.creases ∷ map (words joints) p.states in
    let last : PlanSoFar = record { grid = g.grid; creases = p.creases; states = map plain_state p.states } in
    let count = length-map p.states plain_state in
    let may : not (eqb (length (map plain_state p.states)) 0) ≡ true =
    rw (ne_eqb (length (map plain_state p.states)) 0 (λ e. omega (arith, e, count, some))) refl in
    let inner : AllByRecursion IsInner between = (
      creases_inner p.creases is.creases,
      inner_lines (words joints) (IsOn g.grid joints)
          (λ s h. state_inner g.grid joints s h) p.states on,
    ) in
    let text : spelling p ≡ concat (map fed (first_words g.grid ∷ between)) ++ codes "end\n" =
    ap (λ (bs : List ℕ). bs
    ++ (creases_line p.creases ++ (flat_map (state_line joints) p.states ++ codes "end\n")))
    (ap first_line g.is ∙ first_is g.grid)
    ∙ text_of_each (first_words g.grid) (crease_words p.creases) (words joints) p.states in
    let read = spelled_read plan_lines (first_words g.grid) between (Headed g.grid) (Within last)
    (first_lacks g.grid) inner (first_begins g.grid)
    (lines_told g.grid p.creases p.states (next_number 0) is.creases on is.states.few) may in
    rw (text, read) refl
