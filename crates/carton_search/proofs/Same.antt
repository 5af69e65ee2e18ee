-- On two same cartons the same states and moves keep the panels apart, and the same paths are slack paths.
use Rattle.std.proofs.Common.{◌≡◌, ℕ, List, [], ◌∷◌, subst, ℤ}
use Rattle.carton_base.specs.declared.motion.State.{State}
use Rattle.carton_place.specs.States.{fold_in}
use Rattle.carton_tree.specs.Same.{AreSame}
use Rattle.carton_tree.specs.Trees.{Tree}
use Rattle.carton_text.specs.declared.task.Task.{Task}
use Rattle.carton_part.proofs.Same.{same_parted}
use Rattle.carton_search.specs.Clear.{StayApart, AreApart, SlackStep, folds_between, slack_of}
use Rattle.carton_search.specs.Paths.{Follows, IsPath, IsSlackPath, IsWithinTurns}

pub same_stay : (t u : Tree) (halves : ℤ) (a b : State) → AreSame t u → StayApart t halves a b
    → StayApart u halves a b
unfolding StayApart
same_stay t u halves a b same h = λ n d m. same_parted t u (folds_between a b n d) halves same (h n d m)

pub same_apart : (t u : Tree) (halves : ℤ) (s : State) → AreSame t u → AreApart t halves s
    → AreApart u halves s
unfolding AreApart
same_apart t u halves s same h = same_parted t u (fold_in s) halves same h

follows_too : (R S : State → State → Type 0) → ((a b : State) → R a b → S a b)
    → (a : State) (path : List State) → Follows R a path → Follows S a path
follows_too R S so a [] h = h
follows_too R S so a (b ∷ path) h = (so a b h.0, follows_too R S so b path h.1)

path_too : (R S : State → State → Type 0) (a b : State) (path : List State) → ((x y : State) → R x y → S x y)
    → IsPath R a b path → IsPath S a b path
path_too R S a b [] so h = h
path_too R S a b (s ∷ path) so h = (h.0, follows_too R S so a path h.1, h.2)

-- the slack paths of a task on one of two same cartons are those on the other
pub same_slack_path : (task : Task) (t u : Tree) (path : List State) → AreSame t u → IsSlackPath task t path
    → IsSlackPath task u path
same_slack_path task t u path same h = (
  path_too (SlackStep task t) (SlackStep task u) task.start task.target path over h.0,
  same_apart t u (slack_of task) task.start same h.1,
)
  where
    over : (a b : State) → SlackStep task t a b → SlackStep task u a b
    over a b step = (step.0, same_stay t u (slack_of task) a b same step.1)

-- the moves within the turns of one of two tasks that are one are within those of the other
pub same_budget : (s u : Task) (moves : ℕ) → s ≡ u → IsWithinTurns s moves → IsWithinTurns u moves
same_budget s u moves same within = subst (λ (task : Task). IsWithinTurns task moves) same within
