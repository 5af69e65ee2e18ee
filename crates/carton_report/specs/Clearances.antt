-- How far the panels of a carton stay parted in each move of a plan, certified and two-sided.
use Rattle.std.specs.Prelude.{◌≡◌, ◌≢◌, ℕ, ◌<◌, List, length, slice_get, Some, pos, ◌+ℤ◌, ◌-ℤ◌, ◌*ℤ◌}
use Rattle.carton_base.specs.Moments.{IsMoment}
use Rattle.carton_base.specs.declared.moments.Moment.{Moment}
use Rattle.carton_base.specs.declared.motion.State.{State}
use Rattle.carton_tree.specs.Trees.{Tree}
use Rattle.carton_text.specs.declared.plan.Plan.{Plan}
use Rattle.carton_text.specs.declared.task.Task.{Task}
use Rattle.carton_text.specs.PlanMoves.{IsMove, folds_between}
use Rattle.carton_part.specs.Answers.{IsHalvedMoment}
use Rattle.carton_part.specs.Parted.{AreAllParted, ArePartedBy, AreStrangers}
use Rattle.carton_check.specs.Checks.{IsChecked}
use Rattle.carton_check.specs.declared.checked.Checked.TheVariants.{Holds}
use Rattle.carton_report.specs.declared.cleared.Row.{Row}
use Rattle.carton_report.specs.declared.cleared.Row.TheVariants.{Wide, Tight}
use Rattle.carton_report.specs.declared.cleared.Cleared.{Cleared}
use Rattle.carton_report.specs.declared.cleared.Cleared.TheVariants.{Rows, Fails, Memory}

-- the clearance is certified of move i: at every moment every two panels that share no crease are parted by
-- more than clear - 1
abbrev pub IsCertified : Tree → List State → ℕ → ℕ → Type 0
IsCertified t states i clear = (s r : State) → IsMove states i s r → (n d : ℕ) → IsMoment n d
    → AreAllParted t (folds_between s r n d) (pos 2 *ℤ (pos clear -ℤ pos 1))

-- at this moment of move i no frame and direction part panels a and b by more than clear and half a
-- unit
abbrev pub AreNear : Tree → List State → ℕ → ℕ → ℕ → ℕ → Moment → Type 0
AreNear t states i clear a b m = (s r : State) × IsMove states i s r
    × IsHalvedMoment m (λ n d.
    ¬ (ArePartedBy t (folds_between s r n d) a b (pos 2 *ℤ pos clear +ℤ pos 1)))

-- the clearance is certified of move i, it isn't that of a wide one, and panels a and b, which share no
-- crease, come that near
pub record IsTightest (t : Tree) (states : List State) (i clear a b : ℕ) (m : Moment) : Type 0
  where
    pub narrow : clear < 10000
    pub certified : IsCertified t states i clear
    pub strangers : AreStrangers t a b
    pub near : AreNear t states i clear a b m

-- the row is that of move i
abbrev pub IsRow : Tree → List State → ℕ → Row → Type 0
IsRow t states i (Wide step) = (step ≡ i) × IsCertified t states i 10000
IsRow t states i (Tight step clear a b m) = (step ≡ i) × IsTightest t states i clear a.0 b.0 m

-- each row is that of the move at its place
abbrev pub AreRows : Tree → List State → List Row → Type 0
AreRows t states rows = (i : ℕ) (row : Row) → slice_get rows i ≡ Some row → IsRow t states i row

-- what is told of a plan: that it holds and has as many moves as there are rows, which are theirs; or what
-- its check says, which isn't that it holds
abbrev pub IsCleared : Tree → Task → Plan → Cleared → Type 0
IsCleared t task plan (Rows rows) = IsChecked t task plan (Holds (length rows))
    × AreRows t plan.states rows
IsCleared t task plan (Fails answer) = IsChecked t task plan answer × ((moves : ℕ) → answer ≢ Holds moves)
IsCleared t task plan Memory = Unit {0}

abbrev pub IsRowsOrMemory : Cleared → Type 0
IsRowsOrMemory (Rows rows) = Unit {0}
IsRowsOrMemory (Fails answer) = ⊥
IsRowsOrMemory Memory = Unit {0}
