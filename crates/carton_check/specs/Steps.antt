-- What the steps of a check tell on the way.
use Rattle.std.specs.Prelude.{ℕ, ◌<◌, List, Option, None, Some}
use Rattle.carton_base.specs.declared.motion.State.{State}
use Rattle.carton_tree.specs.Trees.{Tree}
use Rattle.carton_text.specs.TaskPlans.{IsFineMove}
use Rattle.carton_check.specs.declared.checked.Checked.{Checked}
use Rattle.carton_check.specs.declared.checked.Checked.TheVariants.{Blocked, Holds}
use Rattle.carton_check.specs.Checks.{IsBlockedAt, DoHold}

-- the first move that isn't fine, None where all are
abbrev pub IsFirstWide : ℕ → ℕ → List State → Option ℕ → Type 0
IsFirstWide joints stride states None = (i : ℕ) → IsFineMove joints stride states i
IsFirstWide joints stride states (Some i) = ¬ (IsFineMove joints stride states i)
    × ((j : ℕ) → j < i → IsFineMove joints stride states j)

-- what is told of states that are moves: where two panels aren't parted well, or that all keep apart
abbrev pub AreJudged : Tree → ℕ → List State → Checked → Type 0
AreJudged t slack states (Blocked i a b m) = IsBlockedAt t slack states i a.0 b.0 m
AreJudged t slack states (Holds moves) = DoHold t states moves
AreJudged t slack states other = ⊥
