-- Where a command refuses a file it tells nothing else, and of each whether it tells one text alone.
use Rattle.std.proofs.Common.{◌≡◌, ℕ, List, Result}
use Rattle.carton_fixture_commands.proofs.OneClaim.{excludes_claims}
use Rattle.carton_fixture_commands.specs.Fixture.{IsMadeFor, told_fixture}
use Rattle.carton_fixture_commands.specs.Verify.{claims, IsVerifiedFor, told_verified}
use Rattle.carton_plan_commands.proofs.OneFlat.{excludes_flat, one_flat}
use Rattle.carton_plan_commands.specs.Check.{IsCheckOf, told_check}
use Rattle.carton_plan_commands.specs.Clearance.{IsReport, told_report}
use Rattle.carton_plan_commands.specs.Make.{IsMadeText}
use Rattle.carton_plan_commands.specs.Plan.{IsPlanned, told_plan}
use Rattle.carton_plan_commands.specs.Pose.{IsPoseAt}
use Rattle.carton_setup.proofs.OneSetup.{excludes_setups, excludes_proposals}
use Rattle.carton_setup.proofs.OneSupply.{excludes_supplies}
use Rattle.carton_setup.proofs.Outcomes.{excludes_found, excludes_nothing}
use Rattle.carton_setup.specs.Commands.{takes_nothing}
use Rattle.carton_setup.specs.Outcomes.{Exclude}
use Rattle.carton_setup.specs.Proposals.{proposals}
use Rattle.carton_setup.specs.Setups.{setups}
use Rattle.carton_setup.specs.Supplies.{supplies}
use Rattle.carton_setup.specs.Telling.{done}
use Rattle.carton_setup.specs.declared.refusal.BadFile.{BadFile}
use Rattle.carton_setup.specs.declared.told.Told.{Told}
use Rattle.carton_tool.specs.Answers.{tells_by, IsFunction}
use Rattle.carton_words.specs.Commands.{Command, margin_of, end_of, count_of}
use Rattle.carton_words.specs.declared.table.Verb.{Verb}
use Rattle.carton_words.specs.declared.table.Verb.TheVariants.{Flat, Pose, Plan, Check, Clearance, Make}
use Rattle.carton_words.specs.declared.table.Verb.TheVariants.{Fixture, Verify}

pub excludes_by : (verb : Verb) (c : Command) (files : List (List ℕ))
    → Exclude (tells_by verb c files) (tells_by verb c files)
excludes_by Flat c files = excludes_flat (margin_of c) files
excludes_by Pose c files = excludes_found (setups files) (excludes_setups files) (IsPoseAt (end_of c))
    (λ s. done)
excludes_by Plan c files = excludes_found (setups files) (excludes_setups files) IsPlanned (λ s. told_plan)
excludes_by Check c files = excludes_found (proposals files) (excludes_proposals files) IsCheckOf
    (λ p. told_check p.setup.task.stride)
excludes_by Clearance c files = excludes_found (proposals files) (excludes_proposals files) IsReport
    (λ p. told_report p.setup.task.stride)
excludes_by Make c files =
    excludes_found (takes_nothing files) excludes_nothing (λ nothing. IsMadeText (count_of c))
    (λ nothing. done)
excludes_by Fixture c files = excludes_found (supplies files) (excludes_supplies files) IsMadeFor
    (λ s. told_fixture s.setup.task.stride)
excludes_by Verify c files = excludes_found (claims files) (excludes_claims files) IsVerifiedFor
    (λ c. told_verified c.supply.setup.task.stride)

pub one_by : (verb : Verb) (c : Command) (files : List (List ℕ)) (a b : Result Told BadFile) → IsFunction verb
    → tells_by verb c files a → tells_by verb c files b → a ≡ b
one_by Flat c files a b is h k = one_flat (margin_of c) files a b h k
one_by Pose c files a b is h k = absurd is
one_by Plan c files a b is h k = absurd is
one_by Check c files a b is h k = absurd is
one_by Clearance c files a b is h k = absurd is
one_by Make c files a b is h k = absurd is
one_by Fixture c files a b is h k = absurd is
one_by Verify c files a b is h k = absurd is
