-- The line that tells what came of checking a plan.
use Rattle.std.specs.Prelude.{ℕ, nat_eq, List, ◌++◌, codes, if◌then◌else◌}
use Rattle.carton_base.specs.declared.ids.PanelId.{PanelId}
use Rattle.carton_base.specs.declared.moments.Moment.{Moment}
use Rattle.carton_check.specs.declared.checked.Checked.{Checked}
use Rattle.carton_check.specs.declared.checked.Checked.TheVariants.{WrongCreases, WrongStart, WrongEnd}
use Rattle.carton_check.specs.declared.checked.Checked.TheVariants.{NotOneStop, Blocked, Holds}
use Rattle.carton_setup.specs.Printed.{spaced, moment_text}

-- two panels aren't parted well at this moment of a move
abbrev pub blocked_text : ℕ → PanelId → PanelId → Moment → List ℕ
blocked_text i a b m =
    codes "blocked move" ++ spaced i
    ++ (codes " panels" ++ spaced a.0 ++ (spaced b.0 ++ (codes " moment " ++ moment_text m)))

-- a move is too long; where the stride is one stop, it is said so
abbrev pub too_long_text : ℕ → List ℕ
too_long_text stride = if nat_eq stride 1 then codes "not one stop" else codes "past stride"

-- what is told of a plan, for a task of this stride
abbrev pub checked_text : ℕ → Checked → List ℕ
checked_text stride WrongCreases = codes "wrong creases"
checked_text stride WrongStart = codes "wrong start"
checked_text stride WrongEnd = codes "wrong end"
checked_text stride (NotOneStop i) = too_long_text stride ++ spaced i
checked_text stride (Blocked i a b m) = blocked_text i a b m
checked_text stride (Holds moves) = codes "holds" ++ spaced moves
