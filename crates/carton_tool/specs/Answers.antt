-- What each command may tell for the bytes of its files.
use Rattle.std.specs.Prelude.{⊤, ℕ, List}
use Rattle.carton_fixture_commands.specs.Fixture.{tells_fixture}
use Rattle.carton_fixture_commands.specs.Verify.{tells_verify}
use Rattle.carton_plan_commands.specs.Check.{tells_check}
use Rattle.carton_plan_commands.specs.Clearance.{tells_clearance}
use Rattle.carton_plan_commands.specs.Flat.{tells_flat}
use Rattle.carton_plan_commands.specs.Make.{tells_make}
use Rattle.carton_plan_commands.specs.Plan.{tells_plan}
use Rattle.carton_plan_commands.specs.Pose.{tells_pose}
use Rattle.carton_setup.specs.Outcomes.{Outcomes}
use Rattle.carton_setup.specs.declared.told.Told.{Told}
use Rattle.carton_words.specs.Commands.{Command, margin_of, end_of, count_of}
use Rattle.carton_words.specs.declared.table.Verb.{Verb}
use Rattle.carton_words.specs.declared.table.Verb.TheVariants.{Flat, Pose, Plan, Check, Clearance, Make}
use Rattle.carton_words.specs.declared.table.Verb.TheVariants.{Fixture, Verify}

-- what a command of this verb may tell, where none of its files is too long
abbrev pub tells_by : Verb → Command → List (List ℕ) → Outcomes Told
tells_by Flat c = tells_flat (margin_of c)
tells_by Pose c = tells_pose (end_of c)
tells_by Plan c = tells_plan
tells_by Check c = tells_check
tells_by Clearance c = tells_clearance
tells_by Make c = tells_make (count_of c)
tells_by Fixture c = tells_fixture
tells_by Verify c = tells_verify

abbrev pub tells : Command → List (List ℕ) → Outcomes Told
tells c files = tells_by c.verb c files

-- what such a command tells is a function of the bytes of its files
abbrev pub IsFunction : Verb → Type 0
IsFunction Flat = ⊤
IsFunction verb = ⊥
