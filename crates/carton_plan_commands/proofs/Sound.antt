-- Done is told only of a sound plan.
use Rattle.std.proofs.Common.{◌≡◌, ℕ, List, refl, sym, ◌∙◌, ap, Ok}
use Rattle.carton_check.specs.declared.checked.Checked.{Checked}
use Rattle.carton_check.specs.declared.checked.Checked.TheVariants.{WrongCreases, WrongStart, WrongEnd}
use Rattle.carton_check.specs.declared.checked.Checked.TheVariants.{NotOneStop, Blocked, Holds}
use Rattle.carton_setup.proofs.Outcomes.{passed, same_value, ok_of}
use Rattle.carton_setup.specs.Outcomes.{◌>>=◌, gives, values}
use Rattle.carton_setup.proofs.OneSetup.{proposed_from}
use Rattle.carton_setup.specs.Proposals.{proposals}
use Rattle.carton_setup.specs.declared.proposal.Proposal.{Proposal}
use Rattle.carton_setup.specs.declared.told.Ending.TheVariants.{Done}
use Rattle.carton_setup.specs.declared.told.Told.{Told}
use Rattle.carton_plan_commands.specs.Check.{IsCheckOf, told_check, tells_check, IsSoundProposal, AreSound}
use Rattle.carton_plan_commands.specs.Check.{IsDoneOfSound}
use Rattle.carton_plan_commands.specs.Clearance.{IsReport, told_report, tells_clearance}
use Rattle.carton_plan_commands.specs.declared.clearance.Report.{Report}
use Rattle.carton_plan_commands.specs.declared.clearance.Report.TheVariants.{Rows, Fails}

-- done is told of a plan that holds alone
held : (stride : ℕ) (checked : Checked) → (told_check stride checked).ending ≡ Done → (moves : ℕ)
    × (checked ≡ Holds moves)
held stride WrongCreases e = absurd (cc)
held stride WrongStart e = absurd (cc)
held stride WrongEnd e = absurd (cc)
held stride (NotOneStop i) e = absurd (cc)
held stride (Blocked i a b m) e = absurd (cc)
held stride (Holds moves) e = (moves, refl)

ending_is : (a b : Told) → ok_of a ≡ ok_of b → a.ending ≡ Done → b.ending ≡ Done
ending_is a b e done = sym (ap (λ (t : Told). t.ending) (same_value a b e)) ∙ done

sound_of : (files : List (List ℕ)) (p : Proposal) → proposals files (Ok p) → IsSoundProposal p
    → AreSound files
sound_of files p is sound = let of_bytes = proposed_from files p is in
    (p.setup, p.plan, of_bytes.0, of_bytes.1, sound)

pub sound_check : (files : List (List ℕ)) (told : Told) → tells_check files (Ok told)
    → IsDoneOfSound files told
sound_check files told h = λ done.
    let p = passed (proposals files)
    (λ p. values (IsCheckOf p) >>= λ c. gives (told_check p.setup.task.stride c)) told h in
    let stride = p.0.setup.task.stride in
    let c = passed (values (IsCheckOf p.0)) (λ c. gives (told_check stride c)) told p.2 in
    let m = held stride c.0 (ending_is told (told_check stride c.0) c.2 done) in
    sound_of files p.0 p.1 (c.1.sound m.0 m.1)

-- rows are told of a sound plan alone
sound_report : (p : Proposal) (r : Report) → IsReport p r → (told_report p.setup.task.stride r).ending ≡ Done
    → IsSoundProposal p
sound_report p (Rows rows) h e = h.1
sound_report p (Fails checked) h e = absurd (cc)

pub sound_clearance : (files : List (List ℕ)) (told : Told) → tells_clearance files (Ok told)
    → IsDoneOfSound files told
sound_clearance files told h = λ done.
    let p = passed (proposals files)
    (λ p. values (IsReport p) >>= λ r. gives (told_report p.setup.task.stride r)) told h in
    let stride = p.0.setup.task.stride in
    let r = passed (values (IsReport p.0)) (λ r. gives (told_report stride r)) told p.2 in
    sound_of files p.0 p.1 (sound_report p.0 r.0 r.1 (ending_is told (told_report stride r.0) r.2 done))
