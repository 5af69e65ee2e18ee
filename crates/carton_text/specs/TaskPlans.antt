-- Plans against what a task asks of them, and plans of a carton.
use Rattle.std.specs.Prelude.{◌≡◌, ℕ, List, length}
use Rattle.carton_base.specs.declared.motion.State.{State}
use Rattle.carton_tree.specs.Trees.{Tree}
use Rattle.carton_text.specs.declared.plan.Plan.{Plan}
use Rattle.carton_text.specs.declared.task.Task.{Task}
use Rattle.carton_text.specs.PlanMoves.{IsFirst, IsLast, IsMove, IsStrideFrom, HaveMoves}
use Rattle.carton_text.specs.PlanRules.{IsPlan}

-- the plan has the task's creases
abbrev pub HasCreases : Task → Plan → Type 0
HasCreases task plan = plan.creases ≡ task.creases

-- and it begins with the task's start
abbrev pub HasStart : Task → Plan → Type 0
HasStart task plan = HasCreases task plan × IsFirst plan.states task.start

-- and it ends with the task's target
abbrev pub HasEnds : Task → Plan → Type 0
HasEnds task plan = HasStart task plan × IsLast plan.states task.target

-- move i, if there is one, changes no stop of so many joints by more than the stride
abbrev pub IsFineMove : ℕ → ℕ → List State → ℕ → Type 0
IsFineMove joints stride states i = (s r : State) → IsMove states i s r → IsStrideFrom joints stride s r

abbrev pub IsFine : Task → Plan → ℕ → Type 0
IsFine task plan i = IsFineMove (length task.creases) task.stride plan.states i

-- and no move changes a stop by more than the task's stride
abbrev pub HasMoves : Task → Plan → Type 0
HasMoves task plan = HasEnds task plan × ((i : ℕ) → IsFine task plan i)

-- a plan of the carton: its creases are the free joints, and its neighbouring states are moves
pub record IsPlanOf (t : Tree) (plan : Plan) : Type 0 where
  pub rules : IsPlan plan
  pub creases : plan.creases ≡ t.creases
  pub moves : HaveMoves (length plan.creases) plan.states
