-- What `check` tells: whether a plan is sound for the carton and the task of a job.
use Rattle.std.specs.Prelude.{◌≡◌, ℕ, List, Ok}
use Rattle.carton_check.specs.Checks.{IsChecked}
use Rattle.carton_check.specs.Sound.{IsSound}
use Rattle.carton_check.specs.declared.checked.Checked.{Checked}
use Rattle.carton_check.specs.declared.checked.Checked.TheVariants.{WrongCreases, WrongStart, WrongEnd}
use Rattle.carton_check.specs.declared.checked.Checked.TheVariants.{NotOneStop, Blocked, Holds}
use Rattle.carton_text.specs.PlainPlans.{plain}
use Rattle.carton_text.specs.Plans.{plan_of}
use Rattle.carton_text.specs.declared.plan.Plan.{Plan}
use Rattle.carton_setup.specs.Checks.{checked_text}
use Rattle.carton_setup.specs.Files.{file_at}
use Rattle.carton_setup.specs.Outcomes.{Outcomes, ◌>>=◌, gives, values}
use Rattle.carton_setup.specs.Printed.{line}
use Rattle.carton_setup.specs.Proposals.{proposals}
use Rattle.carton_setup.specs.Setups.{setups}
use Rattle.carton_setup.specs.Telling.{done, denied}
use Rattle.carton_setup.specs.declared.proposal.Proposal.{Proposal}
use Rattle.carton_setup.specs.declared.setup.Setup.{Setup}
use Rattle.carton_setup.specs.declared.told.Ending.TheVariants.{Done}
use Rattle.carton_setup.specs.declared.told.Told.{Told}

-- that line is told, and done where the plan holds
abbrev pub told_check : ℕ → Checked → Told
told_check stride (Holds moves) = done (line (checked_text stride (Holds moves)))
told_check stride WrongCreases = denied (line (checked_text stride WrongCreases))
told_check stride WrongStart = denied (line (checked_text stride WrongStart))
told_check stride WrongEnd = denied (line (checked_text stride WrongEnd))
told_check stride (NotOneStop i) = denied (line (checked_text stride (NotOneStop i)))
told_check stride (Blocked i a b m) = denied (line (checked_text stride (Blocked i a b m)))

-- a plan is sound for the carton and the task
abbrev pub IsSoundProposal : Proposal → Type 0
IsSoundProposal p = IsSound p.setup.carton p.setup.task p.plan

-- what came of checking a plan for a carton and a task: the first rule that fails, or that it holds, and then
-- it is sound
pub record IsCheckOf (p : Proposal) (checked : Checked) : Type 0 where
  pub checked_is : IsChecked p.setup.carton p.setup.task p.plan checked
  pub sound : (moves : ℕ) → checked ≡ Holds moves → IsSoundProposal p

-- what `check` may tell for the bytes of its files
abbrev pub tells_check : List (List ℕ) → Outcomes Told
tells_check files = do
  p ← proposals files
  checked ← values (IsCheckOf p)
  gives (told_check p.setup.task.stride checked)

-- the bytes are those of a carton, of a task on it, and of a plan that is sound for them
abbrev pub AreSound : List (List ℕ) → Type 0
AreSound files = (s : Setup) × (p : Plan) × setups files (Ok s) × (plan_of (file_at 2 files) ≡ Ok (plain p))
    × IsSound s.carton s.task p

-- done is told only of a sound plan
abbrev pub IsDoneOfSound : List (List ℕ) → Told → Type 0
IsDoneOfSound files told = told.ending ≡ Done → AreSound files
