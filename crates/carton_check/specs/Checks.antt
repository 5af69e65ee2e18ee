-- The answers of a check of a plan: the first of these that applies.
use Rattle.std.specs.Prelude.{◌≡◌, ◌⊎◌, ℕ, ◌+◌, ◌<◌, List, length, pos}
use Rattle.carton_base.specs.declared.motion.State.{State}
use Rattle.carton_base.specs.declared.moments.Moment.{Moment}
use Rattle.carton_place.specs.States.{fold_in}
use Rattle.carton_tree.specs.Trees.{Tree}
use Rattle.carton_text.specs.declared.plan.Plan.{Plan}
use Rattle.carton_text.specs.declared.task.Task.{Task}
use Rattle.carton_text.specs.PlanMoves.{IsFirst, IsLast, IsMove, folds_between}
use Rattle.carton_text.specs.TaskPlans.{HasCreases, HasStart, HasEnds, IsFine, HasMoves}
use Rattle.carton_part.specs.Answers.{IsHalvedMoment}
use Rattle.carton_part.specs.Beginnings.{IsBeginning}
use Rattle.carton_part.specs.Parted.{AreStrangers, ArePartedBy}
use Rattle.carton_check.specs.declared.checked.Checked.{Checked}
use Rattle.carton_check.specs.declared.checked.Checked.TheVariants.{WrongCreases, WrongStart, WrongEnd}
use Rattle.carton_check.specs.declared.checked.Checked.TheVariants.{NotOneStop, Blocked, Holds}
use Rattle.carton_check.specs.Sound.{KeepsApart}

-- at this moment of move i panels a and b aren't parted by more than half the slack
abbrev pub IsBlockedMove : Tree → ℕ → List State → ℕ → ℕ → ℕ → Moment → Type 0
IsBlockedMove t slack states i a b m = (s r : State) × IsMove states i s r
    × IsHalvedMoment m (λ n d. ¬ (ArePartedBy t (folds_between s r n d) a b (pos slack)))

-- there is one state alone, and in it they aren't
abbrev pub IsBlockedState : Tree → ℕ → List State → ℕ → ℕ → ℕ → Moment → Type 0
IsBlockedState t slack states i a b m = (length states ≡ 1) × (i ≡ 0) × IsBeginning m
    × ((s : State) × IsFirst states s × ¬ (ArePartedBy t (fold_in s) a b (pos slack)))

-- two panels that share no crease aren't parted by more than half the slack, in a move or in the only state
abbrev pub IsBlockedAt : Tree → ℕ → List State → ℕ → ℕ → ℕ → Moment → Type 0
IsBlockedAt t slack states i a b m =
    AreStrangers t a b × (IsBlockedMove t slack states i a b m ⊎ IsBlockedState t slack states i a b m)

-- the states have so many moves, and all panels that share no crease keep apart
abbrev pub DoHold : Tree → List State → ℕ → Type 0
DoHold t states moves = (moves + 1 ≡ length states) × KeepsApart t states (pos 0)

-- the answer is the first of these that applies, with its cause
abbrev pub IsChecked : Tree → Task → Plan → Checked → Type 0
IsChecked t task plan WrongCreases = ¬ (HasCreases task plan)
IsChecked t task plan WrongStart = HasCreases task plan × ¬ (IsFirst plan.states task.start)
IsChecked t task plan WrongEnd = HasStart task plan × ¬ (IsLast plan.states task.target)
IsChecked t task plan (NotOneStop i) = HasEnds task plan × ¬ (IsFine task plan i)
    × ((j : ℕ) → j < i → IsFine task plan j)
IsChecked t task plan (Blocked i a b m) =
    HasMoves task plan × IsBlockedAt t task.slack plan.states i a.0 b.0 m
IsChecked t task plan (Holds moves) = HasMoves task plan × DoHold t plan.states moves
