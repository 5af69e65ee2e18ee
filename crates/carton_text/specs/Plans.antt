-- The plan of a text, or the first rule that fails; and the text of a plan.
use Rattle.std.specs.Prelude.{◌≡◌, ◌↔◌, ℕ, ◌*◌, ℤ, pos, ◌++◌, List, [], ◌∷◌, length, map, flat_map, int_lt}
use Rattle.std.specs.Prelude.{not, nat_eq, nat_lt, nat_le, bytes_eq, ◌&&◌, Bool, true, false, if◌then◌else◌}
use Rattle.std.specs.Prelude.{Result, Ok, Err, codes}
use Rattle.std.specs.List.{range_with_len}
use Rattle.carton_base.specs.declared.limits.TheConstants.{MOST_STATES}
use Rattle.carton_base.specs.declared.ids.EdgeId.{EdgeId}
use Rattle.carton_base.specs.declared.motion.State.{State}
use Rattle.carton_base.specs.Steps.{◌>>=◌, refuse_if, entries_from}
use Rattle.carton_model.specs.Moves.{stop_of}
use Rattle.carton_lines.specs.declared.fault.Fault.{Fault}
use Rattle.carton_lines.specs.declared.fault.Fault.TheVariants.{BadLine, Range}
use Rattle.carton_lines.specs.declared.fault.LineError.{LineError}
use Rattle.carton_lines.specs.declared.fault.LineError.TheVariants.{NoEnd}
use Rattle.carton_text.specs.declared.grid.Grid.{Grid}
use Rattle.carton_text.specs.declared.grid.Grid.TheVariants.{Eight, Sixteen}
use Rattle.carton_text.specs.declared.plan.TheConstants.{MOST_CREASES}
use Rattle.carton_text.specs.declared.plan.Plan.{Plan}
use Rattle.carton_text.specs.declared.plan_text.PlanReading.{PlanReading}
use Rattle.carton_text.specs.declared.plan_text.PlanReading.TheVariants.{Headed, Within}
use Rattle.carton_text.specs.Grids.{stops_of}
use Rattle.carton_lines.specs.Numbers.{at_most}
use Rattle.carton_lines.specs.Lines.{words_of}
use Rattle.carton_lines.specs.StrictLines.{numbers_after, spelled}
use Rattle.carton_lines.specs.Grammars.{Grammar}
use Rattle.carton_lines.specs.Readings.{strictly_read}
use Rattle.carton_text.specs.JobLines.{edge_in}
use Rattle.carton_text.specs.Tasks.{all_stops}
use Rattle.carton_text.specs.PlainPlans.{PlainState, PlainPlan, PlanSoFar, plain}
use Rattle.carton_text.specs.PlanRules.{grid_of, IsPlan}

-- the grid that a first line tells
unfoldable pub grid_told : List ℕ → Result Grid Fault
grid_told line =
    if bytes_eq line (codes "carton plan 1") then Ok Eight else (
    if bytes_eq line (codes "carton plan 2") then Ok Sixteen else Err BadLine)

-- each number but the last is less than the next
abbrev pub is_increasing : List ℤ → Bool
is_increasing [] = true
is_increasing (z ∷ []) = true
is_increasing (y ∷ z ∷ zs) = int_lt y z && is_increasing (z ∷ zs)

-- the creases that the second line tells
unfoldable pub creases_told : List ℕ → Result (List EdgeId) Fault
creases_told line = do
  zs ← numbers_after (codes "creases") (words_of line)
  fine ← refuse_if (not (is_increasing zs)) BadLine
  fine ← refuse_if (nat_lt MOST_CREASES (length zs)) Range
  entries_from (λ i. edge_in) 0 zs

-- a stop for each of so many joints, that a line tells
unfoldable pub stops_told : Grid → ℕ → List ℕ → Result (List ℤ) Fault
stops_told grid joints line = do
  zs ← numbers_after (codes "state") (words_of line)
  fine ← refuse_if (not (nat_eq (length zs) joints)) BadLine
  entries_from (λ i. at_most (2 * stops_of grid)) 0 zs

-- the state of a grid with these stops of the joints
abbrev pub state_of : Grid → List ℤ → PlainState
state_of grid stops = record { grid = stops_of grid; stops = all_stops stops }

-- the plan so far with one more state, that a line tells
unfoldable pub with_state : PlanSoFar → List ℕ → Result PlanSoFar Fault
with_state d line = do
  stops ← stops_told d.grid (length d.creases) line
  fine ← refuse_if (nat_le MOST_STATES (length d.states)) Range
  Ok (record d { states = d.states ++ state_of d.grid stops ∷ [] })

-- the first line tells the grid
abbrev pub begun : List ℕ → Result PlanReading Fault
begun line = grid_told line >>= λ grid. Ok (Headed grid)

-- the second line tells the creases, and each later one a state
abbrev pub plan_line : PlanReading → ℕ → List ℕ → Result PlanReading Fault
plan_line (Headed grid) n line =
    creases_told line >>= λ creases. Ok (Within (record { grid = grid; creases = creases; states = [] }))
plan_line (Within d) n line = with_state d line >>= λ e. Ok (Within e)

-- `end` ends a plan that has a state
abbrev pub may_end : PlanReading → Bool
may_end (Headed grid) = false
may_end (Within d) = not (nat_eq (length d.states) 0)

-- the lines of a plan
abbrev pub plan_lines : Grammar PlanReading
plan_lines = record { begin = begun; take = plan_line; may_end = may_end }

-- what the lines told in all
abbrev pub plan_told : PlanReading → Result PlainPlan LineError
plan_told (Headed grid) = Err NoEnd
plan_told (Within d) = Ok (record { creases = d.creases; states = d.states })

-- the plan of the bytes of a text
unfoldable pub plan_of : List ℕ → Result PlainPlan LineError
plan_of bytes = strictly_read plan_lines bytes >>= plan_told

-- the first line of a plan of the grid
abbrev pub first_line : ℕ → List ℕ
first_line grid = if nat_eq grid 8 then codes "carton plan 1\n" else codes "carton plan 2\n"

-- the line of the creases
abbrev pub creases_line : List EdgeId → List ℕ
creases_line creases = spelled (codes "creases") (map (λ e. pos e.0) creases)

-- the stops of the joints, of which there are so many
abbrev pub joint_stops : ℕ → State → List ℤ
joint_stops joints s = map (stop_of s) (range_with_len 0 joints)

-- the line of a state of so many joints
abbrev pub state_line : ℕ → State → List ℕ
state_line joints s = spelled (codes "state") (joint_stops joints s)

-- the one spelling of a plan
abbrev pub spelling : Plan → List ℕ
spelling p =
    first_line (grid_of p.states)
    ++ (creases_line p.creases ++ (flat_map (state_line (length p.creases)) p.states ++ codes "end\n"))

-- the text is read as a plan exactly where it is the plan's spelling and the plan keeps its rules
abbrev pub HasOneSpelling : List ℕ → Type 0
HasOneSpelling bytes = (p : Plan) → (plan_of bytes ≡ Ok (plain p)) ↔ (IsPlan p × (bytes ≡ spelling p))
