-- When a plan of a carton is sound.
use Rattle.std.specs.Prelude.{◌≡◌, ℕ, List, length, ℤ}
use Rattle.carton_base.specs.declared.motion.State.{State}
use Rattle.carton_model.specs.HalfTurns.{Fold}
use Rattle.carton_tree.specs.Trees.{Tree}
use Rattle.carton_text.specs.declared.plan.Plan.{Plan}
use Rattle.carton_text.specs.declared.task.Task.{Task}
use Rattle.carton_text.specs.PlanMoves.{IsFirst, IsLast, IsMove, IsStrideFrom, FromTheFirst}
use Rattle.carton_part.specs.Meeting.{AreMeeting}
use Rattle.carton_part.specs.Parted.{AreStrangers, AreAllParted}

-- no two panels that share no crease meet
abbrev pub NoneMeet : Tree → (ℕ → Fold) → Type 0
NoneMeet t folds = (a b : ℕ) → AreStrangers t a b → ¬ (AreMeeting t folds a b)

-- the plan is sound: its creases are the task's, it goes from the start to the target by moves of the stride
-- at most, and no two panels that share no crease meet, at the first state and at every moment of every move
pub record IsSound (t : Tree) (task : Task) (plan : Plan) : Type 0 where
  pub creases : plan.creases ≡ task.creases
  pub start : IsFirst plan.states task.start
  pub target : IsLast plan.states task.target
  pub moves : (i : ℕ) (s r : State) → IsMove plan.states i s r
      → IsStrideFrom (length task.creases) task.stride s r
  pub apart : FromTheFirst plan.states (NoneMeet t)

-- at the first state and throughout, all panels that share no crease are parted by more than so many halves
-- of a unit
abbrev pub KeepsApart : Tree → List State → ℤ → Type 0
KeepsApart t states halves = FromTheFirst states (λ folds. AreAllParted t folds halves)
