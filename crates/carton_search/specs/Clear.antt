-- Grid steps of a task that keep the panels of a carton apart. Lengths are counted in halves of a unit.
use Rattle.std.specs.Prelude.{ℕ, ℤ, pos, ◌*ℤ◌}
use Rattle.carton_base.specs.declared.motion.State.{State}
use Rattle.carton_model.specs.HalfTurns.{Fold, joint_fold}
use Rattle.carton_model.specs.Moves.{stop_of}
use Rattle.carton_place.specs.States.{fold_in}
use Rattle.carton_tree.specs.Trees.{Tree}
use Rattle.carton_text.specs.declared.task.Task.{Task}
use Rattle.carton_part.specs.Parted.{AreAllParted, AtEachMoment}
use Rattle.carton_steps.specs.Steps.{IsGridStep}

-- the folds at the moment n / d of the move from a to b
abbrev pub folds_between : State → State → ℕ → ℕ → ℕ → Fold
folds_between a b n d k = joint_fold (stop_of a k) (stop_of b k) a.grid n d

-- at every moment of the move from a to b all panels that share no crease are parted by more than so many
-- halves
unfoldable pub StayApart : Tree → ℤ → State → State → Type 0
StayApart carton halves a b = AtEachMoment (λ n d. AreAllParted carton (folds_between a b n d) halves)

-- in the state they are
unfoldable pub AreApart : Tree → ℤ → State → Type 0
AreApart carton halves s = AreAllParted carton (fold_in s) halves

-- a grid step that keeps them parted
abbrev pub ClearStep : Task → Tree → State → State → Type 0
ClearStep task carton a b = IsGridStep task a b × StayApart carton (pos 0) a b

-- the slack of the task
abbrev pub slack_of : Task → ℤ
slack_of task = pos 2 *ℤ pos task.slack

-- a grid step that keeps them parted by more than the slack
abbrev pub SlackStep : Task → Tree → State → State → Type 0
SlackStep task carton a b = IsGridStep task a b × StayApart carton (slack_of task) a b
